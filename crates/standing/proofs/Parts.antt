-- What stands in the records stands in a part of them, counted from the part's start, and the other way round.
-- Assumes nothing.
use Prim.Native.Nat.{ℕ, ◌+◌, ◌-◌}
use native.Mathlib.Omega.{arith}
use mathlib.Core.Path.{◌≡◌, refl, ap, sym, ◌∙◌}
use mathlib.Core.List.{List}
use lib.ListN.{length, get_or, take, drop, length-drop}
use lib.Seq.{get_or-drop, take_all}
use Rattle.lustre.specs.Name.{Name}
use Rattle.lustre.specs.Types.{Ty, basic, Array, Named, Tuple, levels}
use Rattle.lustre.specs.Expr.{Expr, size}
use Rattle.lustre.specs.Expr.{const, var, unary, binary, ite, pre, arrow, call, field, index, tuple, array, struct, cast, when, merge, iterate, iterate_from, []ᵉ, ◌∷ᵉ◌, []ⁱ, init}
use Rattle.standing.specs.Standing.{Source, source, word, RecAt, NameAt, TypeAt, ExprAt, ExprsAt, InitsAt}

-- What stands in S stands in T: position m of S is position p of T where m + x ≡ p + y.
pub record Carries (S T : Source) (x y : ℕ) : Type 0 where
  pub head : {k : ℕ} (m p : ℕ) → m + x ≡ p + y → RecAt S m k → RecAt T p k
  pub words : (m p : ℕ) → m + x ≡ p + y → word T p ≡ word S m
  pub texts : T.text ≡ S.text

module _ {S T : Source} {x y : ℕ} (c : Carries S T x y) where
  -- what P says of S at a position it says of T at the same position
  abbrev Carried : {X : Type 0} → (Source → X → ℕ → Type 0) → Type 0
  Carried {X} P = (v : X) (m p : ℕ) → m + x ≡ p + y → P S v m → P T v p

  name_carried : {n : Name} (m p : ℕ) → m + x ≡ p + y → NameAt S m n → NameAt T p n
  name_carried m p q s = record { small = rw (c.words m p q) s.small; text = rw (c.words m p q, c.texts) s.text }

  pub type_carried : Carried TypeAt
  unfolding TypeAt
  type_carried (basic b) m p q s = (c.head m p q s.0, s.1)
  type_carried (Array n t) m p q s = (c.head m p q s.0, c.words m p q ∙ s.1, s.2, type_carried t (m + 1) (p + 1) (omega arith) s.3)
  type_carried (Named n) m p q s = (c.head m p q s.0, name_carried m p q s.1)
  type_carried (Tuple n) m p q s = absurd s

  mutual
    unfolding ExprAt

    pub expr_carried : Carried ExprAt
    expr_carried (const l w) m p q s = (c.head m p q s.0, c.words m p q ∙ s.1)
    expr_carried (var n) m p q s = (c.head m p q s.0, name_carried m p q s.1)
    expr_carried (unary o a) m p q s = (c.head m p q s.0, expr_carried a (m + 1) (p + 1) (omega arith) s.1)
    expr_carried (binary o a b) m p q s = (c.head m p q s.0, expr_carried a (m + 1) (p + 1) (omega arith) s.1, expr_carried b (m + 1 + size a) (p + 1 + size a) (omega arith) s.2)
    expr_carried (ite d a b) m p q s = (
      c.head m p q s.0,
      expr_carried d (m + 1) (p + 1) (omega arith) s.1,
      expr_carried a (m + 1 + size d) (p + 1 + size d) (omega arith) s.2,
      expr_carried b (m + 1 + size d + size a) (p + 1 + size d + size a) (omega arith) s.3,
    )
    expr_carried (pre a) m p q s = (c.head m p q s.0, expr_carried a (m + 1) (p + 1) (omega arith) s.1)
    expr_carried (arrow a b) m p q s = (c.head m p q s.0, expr_carried a (m + 1) (p + 1) (omega arith) s.1, expr_carried b (m + 1 + size a) (p + 1 + size a) (omega arith) s.2)
    expr_carried (call f es) m p q s = (c.head m p q s.0, name_carried m p q s.1, c.head (m + 1) (p + 1) (omega arith) s.2, c.words (m + 1) (p + 1) (omega arith) ∙ s.3, exprs_carried es (m + 2) (p + 2) (omega arith) s.4)
    expr_carried (field n a) m p q s = (c.head m p q s.0, name_carried m p q s.1, expr_carried a (m + 1) (p + 1) (omega arith) s.2)
    expr_carried (index a b) m p q s = (c.head m p q s.0, expr_carried a (m + 1) (p + 1) (omega arith) s.1, expr_carried b (m + 1 + size a) (p + 1 + size a) (omega arith) s.2)
    expr_carried (tuple es) m p q s = (c.head m p q s.0, c.words m p q ∙ s.1, exprs_carried es (m + 1) (p + 1) (omega arith) s.2)
    expr_carried (array es) m p q s = (c.head m p q s.0, c.words m p q ∙ s.1, exprs_carried es (m + 1) (p + 1) (omega arith) s.2)
    expr_carried (struct n vs) m p q s = (c.head m p q s.0, name_carried m p q s.1, c.head (m + 1) (p + 1) (omega arith) s.2, c.words (m + 1) (p + 1) (omega arith) ∙ s.3, inits_carried vs (m + 2) (p + 2) (omega arith) s.4)
    expr_carried (cast t a) m p q s = (c.head m p q s.0, type_carried t (m + 1) (p + 1) (omega arith) s.1, expr_carried a (m + 1 + levels t) (p + 1 + levels t) (omega arith) s.2)
    expr_carried (when on n a) m p q s = (c.head m p q s.0, name_carried m p q s.1, expr_carried a (m + 1) (p + 1) (omega arith) s.2)
    expr_carried (merge n a b) m p q s = (c.head m p q s.0, name_carried m p q s.1, expr_carried a (m + 1) (p + 1) (omega arith) s.2, expr_carried b (m + 1 + size a) (p + 1 + size a) (omega arith) s.3)
    expr_carried (iterate i f es) m p q s = (c.head m p q s.0, name_carried m p q s.1, c.head (m + 1) (p + 1) (omega arith) s.2, c.words (m + 1) (p + 1) (omega arith) ∙ s.3, exprs_carried es (m + 2) (p + 2) (omega arith) s.4)
    expr_carried (iterate_from i f a es) m p q s = (
      c.head m p q s.0,
      name_carried m p q s.1,
      expr_carried a (m + 1) (p + 1) (omega arith) s.2,
      c.head (m + 1 + size a) (p + 1 + size a) (omega arith) s.3,
      c.words (m + 1 + size a) (p + 1 + size a) (omega arith) ∙ s.4,
      exprs_carried es (m + 2 + size a) (p + 2 + size a) (omega arith) s.5,
    )

    pub exprs_carried : Carried ExprsAt
    exprs_carried []ᵉ m p q s = tt
    exprs_carried (e ∷ᵉ es) m p q s = (expr_carried e m p q s.0, exprs_carried es (m + size e) (p + size e) (omega arith) s.1)

    pub inits_carried : Carried InitsAt
    inits_carried []ⁱ m p q s = tt
    inits_carried (init n e vs) m p q s = (c.head m p q s.0, name_carried m p q s.1, expr_carried e (m + 1) (p + 1) (omega arith) s.2, inits_carried vs (m + 1 + size e) (p + 1 + size e) (omega arith) s.3)

-- what `&l[a..]` reads
abbrev pub part : List ℕ → ℕ → List ℕ
part l a = take (length l - a) (drop a l)

pub part_is : (l : List ℕ) (a : ℕ) → part l a ≡ drop a l
part_is l a = take_all (length l - a) (drop a l) (omega (arith, length-drop a l))

module _ (ks ws : List ℕ) (ρ : ℕ → Name) (a : ℕ) where
  -- all records, those from a on, and those as code reads them
  abbrev Whole : Source
  Whole = source ks ws ρ

  abbrev Rest : Source
  Rest = source (drop a ks) (drop a ws) ρ

  abbrev Part : Source
  Part = source (part ks a) (part ws a) ρ

  -- an element of the list is one of the list from a on
  same_word : (l : List ℕ) (m p : ℕ) → m ≡ p + a → get_or (drop a l) p 0 ≡ get_or l m 0
  same_word l m p q = let e : a + p ≡ m = omega arith in get_or-drop a l p 0 ∙ ap (λ (i : ℕ). get_or l i 0) e

  -- from the whole into what is left from a on, and out of it
  pub into_rest : Carries Whole Rest 0 a
  into_rest = record {
    head = λ m p q r. record { in_kinds = omega (arith, length-drop a ks, r.in_kinds); in_words = omega (arith, length-drop a ws, r.in_words); kind = same_word ks m p (omega arith) ∙ r.kind };
    words = λ m p q. same_word ws m p (omega arith);
    texts = refl;
  }

  pub out_of_rest : Carries Rest Whole a 0
  out_of_rest = record {
    head = λ m p q r. record { in_kinds = omega (arith, length-drop a ks, r.in_kinds); in_words = omega (arith, length-drop a ws, r.in_words); kind = sym (same_word ks p m (omega arith)) ∙ r.kind };
    words = λ m p q. sym (same_word ws p m (omega arith));
    texts = refl;
  }

  pub into_part : Carries Whole Part 0 a
  into_part = rw (part_is ks a, part_is ws a) into_rest

  pub out_of_part : Carries Part Whole a 0
  out_of_part = rw (part_is ks a, part_is ws a) out_of_rest

  -- what stands at a + i stands in the part at i, and the other way round
  pub expr_in : (e : Expr) (i m : ℕ) → m ≡ a + i → ExprAt Whole e m → ExprAt Part e i
  expr_in e i m q s = expr_carried into_part e m i (omega arith) s

  pub expr_out : (e : Expr) (i m : ℕ) → m ≡ a + i → ExprAt Part e i → ExprAt Whole e m
  expr_out e i m q s = expr_carried out_of_part e i m (omega arith) s

  pub type_in : (t : Ty) (i m : ℕ) → m ≡ a + i → TypeAt Whole t m → TypeAt Part t i
  type_in t i m q s = type_carried into_part t m i (omega arith) s

  pub type_out : (t : Ty) (i m : ℕ) → m ≡ a + i → TypeAt Part t i → TypeAt Whole t m
  type_out t i m q s = type_carried out_of_part t i m (omega arith) s
