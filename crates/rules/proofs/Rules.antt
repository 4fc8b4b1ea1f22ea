-- Laws of single rules: what each says where its tests are known.
-- Assumes nothing.
use Prim.Native.Nat.{ℕ, ◌<◌}
use native.Mathlib.Omega.{arith}
use mathlib.Core.Path.{◌≡◌, refl, sym, ◌∙◌}
use mathlib.Core.List.{List}
use mathlib.Core.Option.{Option, none, some}
use borrow.Author.Tests.{le-leb, lt-leb}
use Rattle.std.specs.Prelude.{Some, None}
use Rattle.lustre.specs.Name.{Name, find}
use Rattle.lustre.specs.Types.{Ty, basic, Array, Named, Tuple}
use Rattle.lustre.specs.Expr.{UnaryOp, Not, Neg}
use Rattle.lustre.specs.Grammar.{unary_kind}
use Rattle.lustre.specs.Project.{Port}
use Rattle.lustre.specs.Line.{Note, plain, named, return, fail}
use Rattle.lustre.specs.Resolve.{Scope}
use Rattle.lustre.specs.Infer.{if_found, literal_rule, var_rule, field_of, array_type, element_of}
use Rattle.types.specs.Value.{Naming, asTy}
use Rattle.types.specs.Number.{KindIs}
use Rattle.types.specs.declared.Typ.{Typ}
use Rattle.types.proofs.Values.{bottom_cases, bottom_basic, bottom_name, view_flat, view_array}

-- ---- types by value

module _ (ρ : Naming) (t : Typ) where
  -- a type with no lengths is a basic type, a name or a tuple
  pub is_basic : t.levels ≡ 0 → (t.base ≡ 33 → ⊥) → (t.base ≡ 34 → ⊥) → asTy ρ t ≡ basic t.base
  is_basic z h g = view_flat ρ t z ∙ bottom_basic ρ t.base t.name h g

  pub is_named : t.levels ≡ 0 → t.base ≡ 33 → asTy ρ t ≡ Named (ρ t.name)
  is_named z h = view_flat ρ t z ∙ bottom_name ρ t.base t.name h

-- a type with no lengths is no array
flat_case : (ρ : Naming) (t : Typ) (P : Ty → Type 0) → t.levels ≡ 0 → ((b : ℕ) → P (basic b)) → ((x : Name) → P (Named x)) → ((n : ℕ) → P (Tuple n)) → P (asTy ρ t)
flat_case ρ t P z b x n = rw (view_flat ρ t z) (bottom_cases P ρ t.base t.name (λ e. x (ρ t.name)) (λ e. n t.name) (λ h g. b t.base))

-- ---- literals

module _ {t : Option Ty} (at : ℕ) where
  -- the type of a kind
  pub literal_typed : {k : ℕ} → KindIs t (Some k) → literal_rule at t ≡ return (basic k)
  unfolding literal_rule if_found
  literal_typed h = rw (← h.is)

  -- or none
  pub literal_untyped : KindIs t None → literal_rule at t ≡ fail (plain at 95)
  unfolding literal_rule if_found
  literal_untyped h = rw (← h.is)

-- ---- operators of one operand

pub not_of : {k : ℕ} (o : UnaryOp) → unary_kind o ≡ k → k ≡ 45 → o ≡ Not
not_of Not e h = refl
not_of Neg e h = absurd (omega arith)

pub minus_of : {k : ℕ} (o : UnaryOp) → unary_kind o ≡ k → (k ≡ 45 → ⊥) → o ≡ Neg
minus_of Not e h = absurd (h (sym e))
minus_of Neg e h = refl

-- ---- a variable

module _ (Γ : Scope) (at : ℕ) (x : Name) where
  pub var_port : {t : Ty} → Γ.port x ≡ some t → var_rule Γ at x ≡ return t
  unfolding var_rule if_found
  var_port p = rw p

  pub var_constant : {t : Ty} → Γ.port x ≡ none → Γ.constant x ≡ some t → var_rule Γ at x ≡ return t
  unfolding var_rule if_found
  var_constant p c = rw (p, c)

  pub var_variant : {e : Name} → Γ.port x ≡ none → Γ.constant x ≡ none → Γ.variant x ≡ some e → var_rule Γ at x ≡ return (Named e)
  unfolding var_rule if_found
  var_variant p c v = rw (p, c, v)

  pub var_absent : Γ.port x ≡ none → Γ.constant x ≡ none → Γ.variant x ≡ none → var_rule Γ at x ≡ fail (named at 80 x)
  unfolding var_rule if_found
  var_absent p c v = rw (p, c, v)

-- ---- a field

module _ (Γ : Scope) (at : ℕ) (x : Name) (ρ : Naming) (t : Typ) where
  pub field_array : (t.levels ≡ 0 → ⊥) → field_of Γ at x (asTy ρ t) ≡ fail (named at 122 x)
  unfolding field_of
  field_array h = rw (view_array ρ t h)

  module _ (z : t.levels ≡ 0) where
    -- a tuple's or a unit's
    pub field_special : 33 < t.base → field_of Γ at x (asTy ρ t) ≡ fail (named at 121 x)
    unfolding field_of
    field_special h =
        rw (view_flat ρ t z)
        (bottom_cases (λ u. field_of Γ at x u ≡ fail (named at 121 x)) ρ t.base t.name (λ e. absurd (omega arith)) (λ e. refl) (λ f g. rw (le-leb 34 t.base (omega arith))))

    pub field_basic : t.base < 33 → field_of Γ at x (asTy ρ t) ≡ fail (named at 122 x)
    unfolding field_of
    field_basic h = rw (is_basic ρ t z (λ e. omega arith) (λ e. omega arith), lt-leb 34 t.base (omega arith))

    module _ (b : t.base ≡ 33) where
      pub field_undeclared : Γ.fields (ρ t.name) ≡ none → field_of Γ at x (asTy ρ t) ≡ fail (named at 121 x)
      unfolding field_of if_found
      field_undeclared h = rw (is_named ρ t z b, h)

      pub field_missing : {fs : List Port} → Γ.fields (ρ t.name) ≡ some fs → find x fs ≡ none → field_of Γ at x (asTy ρ t) ≡ fail (named at 120 x)
      unfolding field_of if_found
      field_missing h g = rw (is_named ρ t z b, h, g)

      pub field_there : {fs : List Port} {u : Ty} → Γ.fields (ρ t.name) ≡ some fs → find x fs ≡ some u → field_of Γ at x (asTy ρ t) ≡ return u
      unfolding field_of if_found
      field_there h g = rw (is_named ρ t z b, h, g)

-- ---- an array type

pub array_not : (m : Note) (ρ : Naming) (t : Typ) → t.levels ≡ 0 → array_type m (asTy ρ t) ≡ fail m
unfolding array_type
array_not m ρ t z = flat_case ρ t (λ u. array_type m u ≡ fail m) z (λ b. refl) (λ x. refl) (λ n. refl)

pub array_is : (m : Note) {k : ℕ} {e : Ty} (t : Ty) → t ≡ Array k e → array_type m t ≡ return (k, e)
unfolding array_type
array_is m t h = rw h

pub element_not : (ρ : Naming) (t : Typ) → t.levels ≡ 0 → element_of (asTy ρ t) ≡ none
unfolding element_of
element_not ρ t z = flat_case ρ t (λ u. element_of u ≡ none) z (λ b. refl) (λ x. refl) (λ n. refl)

pub element_is : {k : ℕ} {e : Ty} (t : Ty) → t ≡ Array k e → element_of t ≡ some e
unfolding element_of
element_is t h = rw h
