-- What the kind of a part's first record says: whether it is temporal, whether it is an iterator, and which name it reads.
-- Assumes nothing.
use Rattle.std.specs.Prelude.{if◌then◌else◌}
use Prim.Native.Nat.{ℕ, ◌<◌}
use mathlib.Core.Path.{◌≡◌, refl, sym, ◌∙◌}
use mathlib.Core.Bool.{Bool, true, false, true≢false}
use mathlib.Core.List.{[], ◌∷◌}
use lib.Dec.{eqb}
use borrow.Author.Tests.{ne_eqb}
use Rattle.lustre.specs.Name.{Name, mem}
use Rattle.lustre.specs.Types.{basic, Array, Named, Tuple}
use Rattle.lustre.specs.Expr.{Literal, UnaryOp, BinOp, IterKind, form, literal_form}
use Rattle.lustre.specs.Expr.{const, var, unary, binary, ite, pre, arrow, call, field, index, tuple, array, struct, cast, when, merge, iterate, iterate_from}
use Rattle.lustre.specs.Expr.{bool, int, float, char, Not, Neg, And, Or, Xor, Implies, Eq, Neq, Lt, Le, Gt, Ge, Add, Sub, Mul, Div, Mod, BitAnd, BitOr, BitXor, Shl, Shr, Map, Fold}
use Rattle.lustre.specs.Grammar.{literal_kind, unary_kind, op_kind, when_kind, iterate_kind, iterate_from_kind, basic_kinds}
use Rattle.demands.proofs.Eaches.{each_member}
use Rattle.demands.proofs.Sets.{mem_in}
use Rattle.standing.specs.Standing.{Source, word, RecAt, NameAt, TypeAt, ExprAt}
use Rattle.standing.proofs.Inversions.{eqb_test}
use Rattle.standing.proofs.Owed.{Part, of_type, of_expr, of_list, of_values, of_value, PartAt, kind}
use Rattle.body.specs.Body.{temporal_kind, iterator_kind, reading_kind}
use Rattle.body.proofs.Told.{part_form, is_temporal, is_iterator, head_names, read_here}

-- a kind that is neither of the two
pub not_temporal : (k : ℕ) → (k ≡ 68 → ⊥) → (k ≡ 69 → ⊥) → temporal_kind k ≡ false
not_temporal k h g = rw (ne_eqb k 68 h, ne_eqb k 69 g)

-- a kind is temporal or not, an iterator or not, reads a name or not
abbrev Says : ℕ → Bool → Bool → Bool → Type 0
Says k t i r = (temporal_kind k ≡ t) × (iterator_kind k ≡ i) × (reading_kind k ≡ r)

-- kinds that the tree chooses
basic_says : (b : ℕ) → mem eqb b basic_kinds ≡ true → Says b false false false
basic_says b h = each_member (λ k. Says k false false false) basic_kinds b (mem_in eqb eqb_test b basic_kinds h)
    ((refl, refl, refl), ((refl, refl, refl), ((refl, refl, refl), ((refl, refl, refl), ((refl, refl, refl), ((refl, refl, refl), ((refl, refl, refl), ((refl, refl, refl), ((refl, refl, refl), ((refl, refl, refl), ((refl, refl, refl), ((refl, refl, refl), tt))))))))))))

literal_says : (l : Literal) (w : ℕ) → Says (literal_kind l) (is_temporal (literal_form l w)) (is_iterator (literal_form l w)) false
unfolding literal_form is_temporal is_iterator
literal_says bool w = (refl, refl, refl)
literal_says int w = (refl, refl, refl)
literal_says float w = (refl, refl, refl)
literal_says char w = (refl, refl, refl)

unary_says : (o : UnaryOp) → Says (unary_kind o) false false false
unary_says Not = (refl, refl, refl)
unary_says Neg = (refl, refl, refl)

op_says : (o : BinOp) → Says (op_kind o) false false false
op_says And = (refl, refl, refl)
op_says Or = (refl, refl, refl)
op_says Xor = (refl, refl, refl)
op_says Implies = (refl, refl, refl)
op_says Eq = (refl, refl, refl)
op_says Neq = (refl, refl, refl)
op_says Lt = (refl, refl, refl)
op_says Le = (refl, refl, refl)
op_says Gt = (refl, refl, refl)
op_says Ge = (refl, refl, refl)
op_says Add = (refl, refl, refl)
op_says Sub = (refl, refl, refl)
op_says Mul = (refl, refl, refl)
op_says Div = (refl, refl, refl)
op_says Mod = (refl, refl, refl)
op_says BitAnd = (refl, refl, refl)
op_says BitOr = (refl, refl, refl)
op_says BitXor = (refl, refl, refl)
op_says Shl = (refl, refl, refl)
op_says Shr = (refl, refl, refl)

when_says : (on : Bool) → Says (when_kind on) false false true
when_says true = (refl, refl, refl)
when_says false = (refl, refl, refl)

iterate_says : (i : IterKind) → Says (iterate_kind i) false true false
iterate_says Map = (refl, refl, refl)
iterate_says Fold = (refl, refl, refl)

iterate_from_says : (i : IterKind) → Says (iterate_from_kind i) false true false
iterate_from_says Map = (refl, refl, refl)
iterate_from_says Fold = (refl, refl, refl)

module _ (S : Source) where
  -- the record at a position says of the part that begins there
  pub record Here (at : ℕ) (p : Part) : Type 0 where
    pub temporal : temporal_kind (kind S at) ≡ is_temporal (part_form p)
    pub iterator : iterator_kind (kind S at) ≡ is_iterator (part_form p)
    pub names : (if reading_kind (kind S at) then S.text (word S at) ∷ [] else []) ≡ read_here p
    pub small : reading_kind (kind S at) ≡ true → word S at < 512

  -- it reads no name, or it reads one
  module _ {at k : ℕ} (p : Part) (r : RecAt S at k) where
    silent : Says k (is_temporal (part_form p)) (is_iterator (part_form p)) false → read_here p ≡ [] → Here at p
    silent h e =
        let (t, i, n) = rw (← r.kind) at h in
        record { temporal = t; iterator = i; names = rw n (sym e); small = λ y. absurd (true≢false (sym y ∙ n)) }

    naming : {x : Name} → Says k (is_temporal (part_form p)) (is_iterator (part_form p)) true → NameAt S at x → read_here p ≡ x ∷ [] → Here at p
    naming h x e =
        let (t, i, n) = rw (← r.kind) at h in
        record { temporal = t; iterator = i; names = rw (n, x.text) (sym e); small = λ y. x.small }

  pub here : (p : Part) (at : ℕ) → PartAt S p at → Here at p
  unfolding TypeAt ExprAt form is_temporal is_iterator head_names
  here (of_type (basic b)) at s = silent (of_type (basic b)) s.0 (basic_says b s.1) refl
  here (of_type (Array n t)) at s = silent (of_type (Array n t)) s.0 (refl, refl, refl) refl
  here (of_type (Named x)) at s = silent (of_type (Named x)) s.0 (refl, refl, refl) refl
  here (of_type (Tuple n)) at s = absurd s
  here (of_list es) at s = silent (of_list es) s.0 (refl, refl, refl) refl
  here (of_values vs) at s = silent (of_values vs) s.0 (refl, refl, refl) refl
  here (of_value x e) at s = silent (of_value x e) s.0 (refl, refl, refl) refl
  here (of_expr (const l w)) at s = silent (of_expr (const l w)) s.0 (literal_says l w) refl
  here (of_expr (var x)) at s = naming (of_expr (var x)) s.0 (refl, refl, refl) s.1 refl
  here (of_expr (unary o a)) at s = silent (of_expr (unary o a)) s.0 (unary_says o) refl
  here (of_expr (binary o a b)) at s = silent (of_expr (binary o a b)) s.0 (op_says o) refl
  here (of_expr (ite c a b)) at s = silent (of_expr (ite c a b)) s.0 (refl, refl, refl) refl
  here (of_expr (pre a)) at s = silent (of_expr (pre a)) s.0 (refl, refl, refl) refl
  here (of_expr (arrow a b)) at s = silent (of_expr (arrow a b)) s.0 (refl, refl, refl) refl
  here (of_expr (call f es)) at s = silent (of_expr (call f es)) s.0 (refl, refl, refl) refl
  here (of_expr (field x a)) at s = silent (of_expr (field x a)) s.0 (refl, refl, refl) refl
  here (of_expr (index a b)) at s = silent (of_expr (index a b)) s.0 (refl, refl, refl) refl
  here (of_expr (tuple es)) at s = silent (of_expr (tuple es)) s.0 (refl, refl, refl) refl
  here (of_expr (array es)) at s = silent (of_expr (array es)) s.0 (refl, refl, refl) refl
  here (of_expr (struct x vs)) at s = silent (of_expr (struct x vs)) s.0 (refl, refl, refl) refl
  here (of_expr (cast t a)) at s = silent (of_expr (cast t a)) s.0 (refl, refl, refl) refl
  here (of_expr (when on c a)) at s = naming (of_expr (when on c a)) s.0 (when_says on) s.1 refl
  here (of_expr (merge c a b)) at s = naming (of_expr (merge c a b)) s.0 (refl, refl, refl) s.1 refl
  here (of_expr (iterate i f es)) at s = silent (of_expr (iterate i f es)) s.0 (iterate_says i) refl
  here (of_expr (iterate_from i f a es)) at s = silent (of_expr (iterate_from i f a es)) s.0 (iterate_from_says i) refl
