-- The names assigned and the type of a right-hand side: the declared type of the one name, and E0040 and E0041 of a type that is no tuple.
-- Assumes nothing.
use Rattle.std.specs.Prelude.{None}
use Prim.Native.Nat.{ℕ, ◌+◌, ◌≤◌}
use native.Mathlib.Omega.{arith}
use mathlib.Core.Path.{◌≡◌, refl, sym, ap, ◌∙◌}
use mathlib.Core.Bool.{true, false}
use mathlib.Core.List.{List, [], ◌∷◌, ◌++◌}
use mathlib.Core.Option.{Option, none, some}
use lib.ListN.{length, get_or, length-drop}
use Rattle.lustre.specs.Name.{Name, lookup}
use Rattle.lustre.specs.Types.{Ty, members}
use Rattle.lustre.specs.Expr.{Form}
use Rattle.lustre.specs.Project.{Port, skeleton}
use Rattle.lustre.specs.Line.{Note, Out, bare, about}
use Rattle.lustre.specs.Resolve.{Scope, compatible, context}
use Rattle.lustre.specs.Node.{wanted, bound_one, bound_plain, bound_tuple, bound_as, bound}
use Rattle.standing.specs.Standing.{RecAt, NameAt, MentionAt, one_record}
use Rattle.standing.proofs.Parts.{part, part_is}
use Rattle.standing.proofs.Sizes.{first, no_items}
use Rattle.lines.specs.Lines.{Noted, Said}
use Rattle.lines.specs.declared.Spot.{Spot}
use Rattle.lines.specs.declared.Lines.{Lines}
use Rattle.lines.proofs.Laws.{noted_append}
use Rattle.types.specs.Value.{Naming}
use Rattle.types.specs.Scope.{Table}
use Rattle.types.specs.declared.context.Context.{Context}
use Rattle.rules.specs.Post.{HintIs}
use Rattle.infer.specs.Post.{GivenWhole}
use Rattle.scope.specs.Tables.{records, Scoped}
use Rattle.scope.proofs.World.{types_targets, world}
use Rattle.equations.specs.Equations.{LeftGiven, SidesGiven, SidesOf}

-- ---- the one name

module _ {ks ws sc : List ℕ} {list : ℕ} (g : LeftGiven ks ws sc list) where
  -- the only name of the list
  pub record One : Type 0 where
    pub x : Name
    pub are : g.xs ≡ x ∷ []
    pub head : RecAt (records g.scoped.model) (list + 1) 8
    pub name : NameAt (records g.scoped.model) (list + 1) x

  -- a list of one name has it
  pub one : get_or ws list 0 ≡ 1 → One
  one e =
      let S = records g.scoped.model in
      let f = first (MentionAt S) one_record g.xs (list + 1) 1 (sym g.listed.many ∙ e) (λ z. omega arith) g.listed.items in
      record { x = f.x; are = f.is ∙ ap (λ (l : List Name). f.x ∷ l) (no_items f.rest (omega (arith, f.fewer))); head = f.x_at.head; name = f.x_at.name }

  -- its number is that of the word
  pub one_number : (o : One) → g.scoped.model.number o.x ≡ get_or ws (list + 1) 0
  one_number o = ap g.scoped.model.number (sym o.name.text) ∙ g.scoped.model.back (get_or ws (list + 1) 0)

  -- its declared type is the one wanted
  pub one_wanted : (o : One) → lookup (g.scoped.model.text (get_or ws (list + 1) 0)) g.scoped.env ≡ wanted g.scoped.env g.xs
  unfolding wanted
  one_wanted o = rw (o.are, ← o.name.text)

  -- none or several names
  pub none_wanted : (get_or ws list 0 ≡ 1 → ⊥) → wanted g.scoped.env g.xs ≡ none
  unfolding wanted
  none_wanted h = go g.xs g.listed.many
    where
      -- the same of any list of names
      go : (xs : List Name) → get_or ws list 0 ≡ length xs → wanted g.scoped.env xs ≡ none
      go [] e = refl
      go (a ∷ []) e = absurd (h e)
      go (a ∷ b ∷ xs) e = refl

-- the aliases of the project are those of the scope
pub alias_table : {ks ws sc : List ℕ} (w : Scoped ks ws sc) → Table w.model.text (context (skeleton w.model.P)).alias ks ws sc
unfolding context
alias_table w = (types_targets w.declared).1

-- no type, where none is declared
pub no_type : {ρ : Naming} {s : Option Ty} → s ≡ none → HintIs ρ s 67 None
no_type e = record { is = sym e; low = omega arith }

-- ---- E0040 and E0041

-- one name and a value of type t
module _ (Γ : Scope) (code : ℕ) (a : Name) (t : Ty) {w : Option Ty} where
  -- no declared type
  pub one_free : w ≡ none → bound_one Γ code a t w ≡ []
  unfolding bound_one
  one_free e = rw e

  -- a declared type that fits
  pub one_fits : {u : Ty} → w ≡ some u → compatible Γ.alias u t ≡ true → bound_one Γ code a t w ≡ []
  unfolding bound_one
  one_fits e h = rw (e, h)

  -- a declared type that does not fit
  pub one_unfit : {u : Ty} → w ≡ some u → compatible Γ.alias u t ≡ false → bound_one Γ code a t w ≡ about code a ∷ []
  unfolding bound_one
  one_unfit e h = rw (e, h)

module _ (Γ : Scope) (env : List Port) (f : Form) (t : Ty) where
  -- a tuple of n members
  pub bound_members : {n : ℕ} (xs : List Name) → members t ≡ some n → bound Γ env xs f (some t) ≡ bound_tuple Γ env xs f n
  unfolding bound bound_as
  bound_members xs h = rw h

  module _ (h : members t ≡ none) where
    -- no tuple, for none or several names
    pub bound_not_one : (xs : List Name) → (length xs ≡ 1 → ⊥) → bound Γ env xs f (some t) ≡ bare 41 ∷ []
    unfolding bound bound_as bound_plain
    bound_not_one [] n = rw h
    bound_not_one (a ∷ []) n = absurd (n refl)
    bound_not_one (a ∷ b ∷ xs) n = rw h

    -- no tuple, for one name
    pub bound_alone : {xs : List Name} {a : Name} → xs ≡ a ∷ [] → bound Γ env xs f (some t) ≡ bound_one Γ 40 a t (wanted env xs)
    unfolding bound bound_as bound_plain wanted
    bound_alone e = rw (e, h)

-- no type
pub bound_nothing : (Γ : Scope) (env : List Port) (xs : List Name) (f : Form) → bound Γ env xs f none ≡ []
unfolding bound
bound_nothing Γ env xs f = refl

-- what inference says, and what is said of its type then
pub said_then_noted : {A : Type 0} {num : Name → ℕ} {q : Spot} {s : Out A} {v w : Option A} {l l₁ l₂ : Lines} (f : Option A → List Note)
    → v ≡ w → Said num q s v l l₁ → Noted num q (f w) l₁ l₂ → Noted num q (s.1 ++ f s.0) l l₂
said_then_noted f e d h = rw (← d.value, e) (noted_append d.noted h)

-- what inference asks for
abbrev pub sides_whole : {x : Context} {list start : ℕ} (g : SidesOf x list start) → GivenWhole x start
sides_whole g = record { W = world g.left.scoped.model g.left.scoped.declared; few = g.left.scoped.model.few; e = g.e; stands = g.stands; shallow = g.shallow }

-- the side has no more records than the whole
pub sides_few : {ks ws sc : List ℕ} {list start : ℕ} (g : SidesGiven ks ws sc list start) → length (part ks start) ≤ 4096
sides_few {ks} {start = start} g = rw (part_is ks start) (omega (arith, length-drop start ks, g.left.scoped.model.few))
