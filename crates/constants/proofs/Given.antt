-- A constant at a record: its name, its declared type, its value, and what the functions on them ask.
-- Assumes nothing.
use Prim.Native.Nat.{ℕ, ◌+◌, ◌-◌, ◌≤◌, ◌<◌}
use native.Mathlib.Omega.{arith}
use mathlib.Core.Path.{◌≡◌, sym, ◌∙◌, ap, subst}
use mathlib.Core.Logic.{⊎_elim}
use mathlib.Core.Bool.{true, false}
use mathlib.Core.List.{List, ◌∷◌}
use lib.ListN.{length, get_or, take, drop, length-take, length-drop}
use Rattle.std.proofs.lemmas.List.{take-append-drop}
use Rattle.lustre.specs.Name.{Name, ◌is◌, ◌among◌}
use Rattle.lustre.specs.Expr.{size}
use Rattle.lustre.specs.Project.{skeleton}
use Rattle.lustre.specs.Resolve.{context}
use Rattle.demands.proofs.Sets.{split, mem_eq, mem_ne}
use Rattle.demands.proofs.Orders.{is_test}
use Rattle.standing.specs.Standing.{source}
use Rattle.standing.specs.Owed.{There}
use Rattle.standing.proofs.Inversions.{expr_record}
use Rattle.standing.proofs.Parts.{part, part_is, expr_in}
use Rattle.standing.proofs.Sizes.{expr_end}
use Rattle.body.specs.Body.{Side}
use Rattle.loops.specs.Rows.{has, Connected}
use Rattle.types.specs.Value.{Naming, asTy}
use Rattle.types.specs.Place.{Read}
use Rattle.types.specs.Scope.{Table}
use Rattle.types.specs.declared.Typ.{Typ}
use Rattle.types.specs.declared.context.Context.{Context}
use Rattle.rules.specs.World.{Typed}
use Rattle.rules.proofs.Places.{read_is, read_next}
use Rattle.infer.specs.Post.{GivenWhole}
use Rattle.scope.specs.Sets.{Holds}
use Rattle.scope.specs.Tables.{records}
use Rattle.scope.proofs.Sets.{holds_add, holds_same}
use Rattle.scope.proofs.World.{apart, types_targets, world}
use Rattle.constants.specs.Constants.{ConstantGiven, ConstantOf}

-- ---- an expression in the records

module _ {ks ws : List ℕ} {start : ℕ} (g : There ks ws start) where
  -- it begins and ends within the records
  pub value_kinds : start < length ks
  value_kinds = (expr_record (source ks ws g.text) g.e start g.stands).in_kinds

  pub value_end : {next : ℕ} → next ≡ start + size g.e → next ≤ length ks
  value_end h = omega (arith, h, expr_end (source ks ws g.text) g.e start g.stands)

  -- its own kinds
  abbrev pub value_own : {next : ℕ} → next ≡ start + size g.e → Side (take (next - start) (drop start ks))
  value_own {next} h =
      let n = next - start in
      record {
        after = drop n (drop start ks);
        whole = record {
          ws = part ws start;
          text = g.text;
          e = g.e;
          stands = rw (take-append-drop n (drop start ks), ← part_is ks start) (expr_in ks ws g.text start g.e 0 start (omega arith) g.stands);
          ends = omega (arith, h, expr_end (source ks ws g.text) g.e start g.stands, length-take n (drop start ks), length-drop start ks);
        };
      }

-- ---- a set of names

-- a name that the list has already
pub holds_known : {text : Naming} {x : Name} {xs : List Name} {set : List ℕ} → (x among xs) ≡ true → Holds text xs set → Holds text (x ∷ xs) set
holds_known {text} {x} {xs} {set} k h =
    holds_same
    (λ y.
    ⊎_elim
    (λ (e : (y is x) ≡ true). ap (λ (z : Name). z among xs) (is_test.same y x e) ∙ k ∙ sym (mem_eq ◌is◌ y x xs e))
    (λ (e : (y is x) ≡ false). sym (mem_ne ◌is◌ y x xs e))
    (split (y is x)))
    h

-- ---- a constant

module _ {ks ws sc : List ℕ} {at : ℕ} (g : ConstantGiven ks ws sc at) where
  -- the number of its name is the word of its record
  pub name_number : g.model.number g.c.name ≡ get_or ws at 0
  name_number = ap g.model.number (sym g.stands.name.text) ∙ g.model.back (get_or ws at 0)

  module _ {xs : List Name} {set : List ℕ} (h : Holds g.model.text xs set) where
    -- whether the set has its name
    pub name_known : has set 0 (get_or ws at 0) ≡ (g.c.name among xs)
    name_known = h.each (get_or ws at 0) g.stands.name.small ∙ ap (λ (x : Name). x among xs) g.stands.name.text

    -- the set with its name
    pub name_added : {set' : List ℕ} → Connected set 0 (get_or ws at 0) set' → Holds g.model.text (g.c.name ∷ xs) set'
    name_added {set'} c = subst (λ (x : Name). Holds g.model.text (x ∷ xs) set') g.stands.name.text (holds_add (apart g.model) g.stands.name.small c h)

  -- its declared type
  abbrev pub declared_type : Typed (records g.model) g.c.type (at + 1)
  declared_type = record { stands = g.stands.type; few = g.shallow.type }

  -- its value, behind the type that was read
  abbrev pub value_there : {r : Typ} {next : ℕ} → Read ks ws (at + 1) r next → There ks ws next
  value_there {r} {next} d = record { text = g.model.text; e = g.c.value; stands = rw (read_next declared_type d) g.stands.value }

  -- the type that was read is the declared one
  pub read_declared : {r : Typ} {next : ℕ} → Read ks ws (at + 1) r next → asTy g.model.text r ≡ g.c.type
  read_declared d = (read_is declared_type d).is

  -- the aliases of the project are those of the scope
  pub alias_table : Table g.model.text (context (skeleton g.model.P)).alias ks ws sc
  unfolding context
  alias_table = (types_targets g.declared).1

-- what inference asks for
abbrev pub value_given : {x : Context} {at : ℕ} (g : ConstantOf x at) {r : Typ} {next : ℕ} → Read x.records.kinds.now x.records.words.now (at + 1) r next → GivenWhole x next
value_given g d = record { W = world g.model g.declared; few = g.model.few; e = g.c.value; stands = (value_there g d).stands; shallow = g.shallow.value }

-- its value has no more records than the whole
pub value_few : {ks ws sc : List ℕ} {at : ℕ} (start : ℕ) (g : ConstantGiven ks ws sc at) → length (part ks start) ≤ 4096
value_few {ks} start g = rw (part_is ks start) (omega (arith, length-drop start ks, g.model.few))
