-- Laws of literals: a number and the ranges of the integer types, and the type under a hint. Assumes nothing.
use Rattle.std.specs.Prelude as code
use Rattle.std.specs.Prelude.{Some, None, if◌then◌else◌, Result, Ok, Err, OkIff, is_ok, unsigned_abs}
use Prim.Native.Nat.{ℕ, ◌-◌, ◌^◌, ◌<◌}
use mathlib.Core.Path.{◌≡◌, refl, sym, ap, ◌∙◌}
use mathlib.Core.Bool.{Bool, true, false}
use mathlib.Core.List.{List}
use mathlib.Core.Option.{Option, none, some}
use native.Mathlib.Omega.{arith}
use native.Mathlib.Decide.{ℕ_discrete}
use Rattle.std.proofs.lemmas.Bool.Decides.{nat_tests}
use lib.Dec.{eqb, ltb}
use lib.IntN.{ℤ, pos, negsuc}
use lib.Signed.{mag}
use mir.Syntax.{Width, w128}
use mir.Val.{bits, hbits, to_z, of_z, SFits}
use Rattle.std.specs.Int.{FitsUnsigned}
use Rattle.std.proofs.lemmas.Int.{ints, to_z-of_z}
use borrow.Author.Tests.{ne_eqb, lt-ltb, le-ltb}
use Rattle.lustre.specs.Name.{Name}
use Rattle.lustre.specs.Types.{Ty, basic, Array, Named, Tuple, within, is_float, signed, unsigned, range_of}
use Rattle.lustre.specs.Expr.{Literal, bool, int, float, char}
use Rattle.lustre.specs.Grammar.{literal_kind}
use Rattle.lustre.specs.Resolve.{Aliases, resolve}
use Rattle.lustre.specs.Literal.{in_range, in_some_range, fits, int32_type, integer_type, float_type, literal_type}
use Rattle.types.specs.Scope.{kind_of, KindOf}
use Rattle.types.specs.Number.{asHint, KindIs, hint_kind, HintKind, Hinted}
use Rattle.types.specs.declared.Typ.{Typ}
use Rattle.types.proofs.Truths.{never}

not_below : (a b : ℕ) → (a < b → ⊥) → ltb a b ≡ false
not_below a b h = le-ltb a b (omega (arith, h))

module _ {E : Type 0} (w : Width) where
  signed_range : (z : ℤ) (r : Result ℤ E) → hbits w ≡ bits w - 1 → OkIff r (SFits w z) z → is_ok r ≡ in_range z (signed (bits w))
  unfolding in_range
  signed_range (pos n) (Ok x) h o = rw (← h) (sym (lt-ltb _ _ o.0.sfits))
  signed_range (negsuc n) (Ok x) h o = rw (← h) (sym (lt-ltb _ _ o.0.sfits))
  signed_range (pos n) (Err x) h o = rw (← h) (sym (not_below _ _ (λ l. o (record { sfits = l }))))
  signed_range (negsuc n) (Err x) h o = rw (← h) (sym (not_below _ _ (λ l. o (record { sfits = l }))))

  unsigned_range : (z : ℤ) (r : Result ℕ E) → OkIff r (FitsUnsigned w z) (unsigned_abs z) → is_ok r ≡ in_range z (unsigned (bits w))
  unfolding in_range
  unsigned_range (pos n) (Ok x) o = grind (arith, ints)
  unsigned_range (negsuc n) (Ok x) o = absurd (omega (arith, ints))
  unsigned_range (pos n) (Err x) o = grind (arith, ints)
  unsigned_range (negsuc n) (Err x) o = refl

  module _ (k : ℕ) {v n : ℤ} (f : mag v < 2 ^ 127) (e : v ≡ n) where
    pub fits_signed : (r : Result ℤ E) → hbits w ≡ bits w - 1 → range_of k ≡ some (signed (bits w)) → OkIff r (SFits w (to_z w128 (of_z w128 v))) (to_z w128 (of_z w128 v)) →
        is_ok r ≡ fits n (basic k)
    unfolding fits in_some_range
    fits_signed r h q o = signed_range _ r h o ∙ rw (q, to_z-of_z w128 v (record { sfits = f }), e)

    pub fits_unsigned : (r : Result ℕ E) → range_of k ≡ some (unsigned (bits w)) → OkIff r (FitsUnsigned w (to_z w128 (of_z w128 v))) (unsigned_abs (to_z w128 (of_z w128 v))) →
        is_ok r ≡ fits n (basic k)
    unfolding fits in_some_range
    fits_unsigned r q o = unsigned_range _ r o ∙ rw (q, to_z-of_z w128 v (record { sfits = f }), e)

-- ---- the type of a literal under a hint

module _ {ks ws sc : List ℕ} where
  pub no_hint : HintKind ks ws sc None None
  no_hint = record { is = λ ρ al T. refl }

  pub some_hint : {t : Typ} {r : code.Option ℕ} → KindOf ks ws sc t r → HintKind ks ws sc (Some t) r
  some_hint q = record { is = q.is }

-- a kind that is neither a name's nor a tuple's
pub kind_is : (k : ℕ) → (k ≡ 33 → ⊥) → (k ≡ 34 → ⊥) → KindIs (some (basic k)) (Some k)
kind_is k n m = record { is = refl; no_name = λ e. n cc; no_tuple = λ e. m cc }

module _ (v : ℤ) where
  pub in_int32 : fits v (basic 23) ≡ true → KindIs (int32_type v) (Some 23)
  unfolding int32_type
  in_int32 e = rw e (kind_is 23 (λ i. omega (arith, i)) (λ i. omega (arith, i)))

  pub past_int32 : fits v (basic 23) ≡ false → KindIs (int32_type v) None
  unfolding int32_type
  past_int32 e = rw e (record { is = refl; no_name = λ i. cc; no_tuple = λ i. cc })

-- f gives the resolved hint if that is in a class P, which holds basic types alone, else d
pub record Picks (P : Ty → Bool) (d : Option Ty) (f : Aliases → Option Ty → Option Ty) : Type 0 where
  pub arrays : (n : ℕ) (t : Ty) → P (Array n t) ≡ false
  pub names : (x : Name) → P (Named x) ≡ false
  pub tuples : (n : ℕ) → P (Tuple n) ≡ false
  pub name : P (basic 33) ≡ false
  pub tuple : P (basic 34) ≡ false
  pub bare : (al : Aliases) → f al none ≡ d
  pub under : (al : Aliases) (h : Ty) → f al (some h) ≡ (if P (resolve al h) then some (resolve al h) else d)

pub picks_integer : (v : ℤ) → Picks (fits v) (int32_type v) (λ al. integer_type al v)
unfolding fits integer_type in_some_range range_of
picks_integer v = record { arrays = λ n t. refl; names = λ x. refl; tuples = λ n. refl; name = refl; tuple = refl; bare = λ al. refl; under = λ al h. refl }

some_if : (b : Bool) (t u : Ty) → some (if b then t else u) ≡ (if b then some t else some u)
some_if true t u = refl
some_if false t u = refl

pub picks_float : Picks is_float (some (basic 30)) (λ al h. some (float_type al h))
unfolding within float_type
picks_float = record {
  arrays = λ n t. refl;
  names = λ x. refl;
  tuples = λ n. refl;
  name = refl;
  tuple = refl;
  bare = λ al. refl;
  under = λ al h. some_if (is_float (resolve al h)) (resolve al h) (basic 30);
}

-- P of the basic type of a kind, false of none
abbrev pub of_kind : (Ty → Bool) → code.Option ℕ → Bool
of_kind P None = false
of_kind P (Some k) = P (basic k)

module _ {P : Ty → Bool} {d : Option Ty} {f : Aliases → Option Ty → Option Ty} (p : Picks P d f) where
  -- a type in the class is the basic type of its kind
  by_kind : (t : Ty) {k : ℕ} → Some k ≡ kind_of t → P (basic k) ≡ true → t ≡ basic k
  unfolding kind_of
  by_kind (basic k) e i = cc
  by_kind (Array n t) e i = absurd cc
  by_kind (Named x) e i = absurd cc
  by_kind (Tuple n) {k} e i = absurd (never (sym p.tuple ∙ ap (λ (j : ℕ). P (basic j)) (let q : 34 ≡ k = cc in q) ∙ i))

  not_kind : (t : Ty) → of_kind P (kind_of t) ≡ false → P t ≡ false
  unfolding kind_of
  not_kind (basic k) e = e
  not_kind (Array n t) e = p.arrays n t
  not_kind (Named x) e = p.names x
  not_kind (Tuple n) e = p.tuples n

  -- a kind in the class is not this one
  in_class : {k c : ℕ} → P (basic k) ≡ true → P (basic c) ≡ false → k ≡ c → ⊥
  in_class i o e = never (sym o ∙ ap (λ (x : ℕ). P (basic x)) (sym e) ∙ i)

  module _ {ks ws sc : List ℕ} {h : code.Option Typ} where
    pub takes_hint : {k : ℕ} → HintKind ks ws sc h (Some k) → P (basic k) ≡ true → Hinted ks ws sc h f (Some k)
    takes_hint {k} q i = record { type = λ ρ al T. go al (asHint ρ h) (q.is ρ al T) }
      where
        go : (al : Aliases) (o : Option Ty) → Some k ≡ hint_kind al o → KindIs (f al o) (Some k)
        go al none e = absurd cc
        go al (some t) e = rw (p.under al t, by_kind _ e i, i) (kind_is k (in_class i p.name) (in_class i p.tuple))

    pub leaves_hint : {r k : code.Option ℕ} → HintKind ks ws sc h k → of_kind P k ≡ false → KindIs d r → Hinted ks ws sc h f r
    leaves_hint {r} {k} q i b = record { type = λ ρ al T. go al (asHint ρ h) (q.is ρ al T) }
      where
        go : (al : Aliases) (o : Option Ty) → k ≡ hint_kind al o → KindIs (f al o) r
        go al none e = rw (p.bare al) b
        go al (some t) e = rw (p.under al t, not_kind (resolve al t) (ap (of_kind P) (sym e) ∙ i)) b

module _ {ks ws sc : List ℕ} {h : code.Option Typ} where
  pub float_32 : HintKind ks ws sc h (Some 29) → Hinted ks ws sc h (λ al o. some (float_type al o)) (Some 29)
  unfolding within
  float_32 q = takes_hint picks_float q refl

  pub float_64 : (k : code.Option ℕ) → HintKind ks ws sc h k → (k ≡ Some 29 → ⊥) → Hinted ks ws sc h (λ al o. some (float_type al o)) (Some 30)
  unfolding within
  float_64 None q n = leaves_hint picks_float q refl (kind_is 30 (λ e. omega (arith, e)) (λ e. omega (arith, e)))
  float_64 (Some k) q n = go (ℕ_discrete k 30)
    where
      go : Dec (k ≡ 30) → Hinted ks ws sc h (λ al o. some (float_type al o)) (Some 30)
      go (yes e) = takes_hint picks_float (rw e at q) refl
      go (no g) = leaves_hint picks_float q (let d : k ≡ 29 → ⊥ = λ e. n (ap Some e) in grind (arith, nat_tests)) (kind_is 30 (λ e. omega (arith, e)) (λ e. omega (arith, e)))

-- a literal whose type is the basic type of kind k under every hint
pub any_hint : {ks ws sc : List ℕ} {h : code.Option Typ} (k : ℕ) → (k ≡ 33 → ⊥) → (k ≡ 34 → ⊥) → Hinted ks ws sc h (λ al o. some (basic k)) (Some k)
any_hint k n m = record { type = λ ρ al T. kind_is k n m }

-- the literal of a record kind
unfoldable pub literalOf : ℕ → Literal
literalOf k = if eqb k 40 then bool else if eqb k 41 then int else if eqb k 42 then float else char

literal_back : (l : Literal) → literalOf (literal_kind l) ≡ l
unfolding literalOf
literal_back bool = refl
literal_back int = refl
literal_back float = refl
literal_back char = refl

is_literal : (l : Literal) (k : ℕ) → literal_kind l ≡ k → l ≡ literalOf k
is_literal l k e = sym (literal_back l) ∙ ap literalOf e

pub is_char : (k : ℕ) → (k ≡ 40 → ⊥) → (k ≡ 41 → ⊥) → (k ≡ 42 → ⊥) → literalOf k ≡ char
unfolding literalOf
is_char k a b c = rw (ne_eqb k 40 a, ne_eqb k 41 b, ne_eqb k 42 c)

pub typed_as : {ks ws sc : List ℕ} {h : code.Option Typ} {r : code.Option ℕ} (word k : ℕ) {m : Literal} → literalOf k ≡ m → Hinted ks ws sc h (λ al. literal_type al m word) r →
    (l : Literal) → literal_kind l ≡ k → Hinted ks ws sc h (λ al. literal_type al l word) r
typed_as word k e q l f = rw (is_literal l k f ∙ e) q
