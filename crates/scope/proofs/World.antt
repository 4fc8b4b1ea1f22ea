-- A model with its tables is a world that inference reads.
-- Assumes nothing.
use Prim.Native.Nat.{ℕ, suc, ◌+◌}
use native.Mathlib.Omega.{arith}
use mathlib.Core.Path.{◌≡◌, refl, sym, ◌∙◌, ap}
use mathlib.Core.Logic.{⊎_elim}
use mathlib.Core.Bool.{true, false}
use mathlib.Core.List.{List}
use mathlib.Core.Option.{Option, some}
use lib.Dec.{ltb}
use borrow.Author.Tests.{ne_eqb, ltb-true, ltb-false}
use Rattle.lustre.specs.Name.{Name, lookup}
use Rattle.lustre.specs.Types.{Ty}
use Rattle.lustre.specs.Project.{Port, Heading}
use Rattle.lustre.specs.Resolve.{context, within_node}
use Rattle.demands.proofs.Sets.{split}
use Rattle.standing.specs.Standing.{source}
use Rattle.types.specs.Value.{Naming, Injective}
use Rattle.types.specs.Place.{IsTypeAt}
use Rattle.types.specs.Scope.{slot, target, Table, Targets}
use Rattle.rules.specs.World.{Typed, Listed, EnumAt, HeadingAt, Found, absent, present, Row, World}
use Rattle.rules.proofs.Places.{type_there, type_is}
use Rattle.scope.specs.Model.{Model}
use Rattle.scope.specs.Tables.{Tables, records, scope_in, Declared}

-- different numbers have different texts
pub apart : {ks ws : List ℕ} (g : Model ks ws) → Injective g.text
apart g m n e = sym (g.back m) ∙ ap g.number e ∙ g.back n

-- what an entry of the table of aliases leads to
record Led (ks ws : List ℕ) (ρ : Naming) (e : ℕ) (o : Option Ty) : Type 0 where
  is : o ≡ target ρ ks ws e
  stands : (e ≡ 0 → ⊥) → IsTypeAt ks ws e

-- by what the entry says of the name
led : {ks ws : List ℕ} {ρ : Naming} {e : ℕ} {o : Option Ty} → Found (λ p t. Typed (source ks ws ρ) t (p + 1)) e o → Led ks ws ρ e o
unfolding target
led absent = record { is = refl; stands = λ h. absurd (h refl) }
led {ks} {ws} {ρ} (present {p} {a} x) =
    let z : p + 1 ≡ suc p = omega arith in
    let y : Typed (source ks ws ρ) a (suc p) = rw z at x in
    record { is = rw (ne_eqb (suc p) 0 (λ h. omega arith)) (ap some (sym (type_is y))); stands = λ h. type_there y }

module _ {ks ws : List ℕ} {ρ : Naming} {as' : List (Name × Ty)} {rs : List (Name × List Port)} {vs : List (Name × Name)} {cs : List (Name × Ty)} {ns : List (Name × Heading)} {env : List Port} {sc : List ℕ} (T : Tables (source ks ws ρ) as' rs vs cs ns env sc) where
  -- the same of any number
  entry : (n : ℕ) → Led ks ws ρ (slot sc n) (lookup (ρ n) as')
  unfolding slot target
  entry n =
      ⊎_elim
      (λ (h : ltb n 512 ≡ true). let z : n + 0 ≡ n = omega arith in rw h (led (rw z at (T.alias n (ltb-true n 512 h)))))
      (λ (h : ltb n 512 ≡ false). rw (h, T.beyond n (ltb-false n 512 h)) (led absent))
      (split (ltb n 512))

  -- the aliases' entries lead to types, and to those that the names have
  pub types_targets : Targets ks ws sc × Table ρ (λ x. lookup x as') ks ws sc
  types_targets = (record { room = omega (arith, T.room); stand = λ n. (entry n).stands }, λ n. (entry n).is)

  -- what a context of the records and the scope asks
  pub tables_led : Targets ks ws sc
  tables_led = types_targets.0

module _ {ks ws : List ℕ} (g : Model ks ws) {env : List Port} {sc : List ℕ} (T : Declared g env sc) where
  -- the aliases by text
  pub world_alias : Table g.text (scope_in g env).alias ks ws sc
  unfolding context within_node
  world_alias = (types_targets T).1

  -- the fields of records
  pub world_fields : Row g.text sc 512 (λ p ps. Listed (records g) ps (p + 1)) (scope_in g env).fields
  unfolding context within_node
  world_fields = T.fields

  -- the enums of variants
  pub world_variant : Row g.text sc 1024 (EnumAt (records g)) (scope_in g env).variant
  unfolding context within_node
  world_variant = T.variant

  -- the types of constants
  pub world_constant : Row g.text sc 1536 (λ p t. Typed (records g) t (p + 1)) (scope_in g env).constant
  unfolding context within_node
  world_constant = T.constant

  -- the headings of nodes
  pub world_node : Row g.text sc 2048 (HeadingAt (records g)) (scope_in g env).node
  unfolding context within_node
  world_node = T.node

  -- the types of ports and locals
  pub world_port : Row g.text sc 2560 (λ p t. Typed (records g) t (p + 1)) (scope_in g env).port
  unfolding context within_node
  world_port = T.port

  -- the model as inference reads it
  abbrev pub world : World ks ws sc
  world = record {
    text = g.text;
    number = g.number;
    back = g.back;
    Γ = scope_in g env;
    even = g.even;
    room = T.room;
    alias = world_alias;
    targets = tables_led T;
    fields = world_fields;
    variant = world_variant;
    constant = world_constant;
    node = world_node;
    port = world_port;
  }
