-- The assigned names one after another, by their numbers ns: the notes of each, and the set that has those assigned before.
-- Assumes nothing.
use Rattle.std.specs.Prelude.{if◌then◌else◌}
use Prim.Native.Nat.{ℕ, ◌+◌, ◌≤◌, ◌<◌}
use mathlib.Core.Path.{◌≡◌, refl, sym, ◌∙◌, ap}
use mathlib.Core.Bool.{Bool, true, false, not, ◌||◌}
use mathlib.Core.List.{List, [], ◌∷◌, ◌++◌, map}
use lib.Dec.{eqb}
use lib.ListN.{length, get_or, drop, drop_of_length-le}
use Rattle.std.proofs.lemmas.List.{drop_more}
use Rattle.lustre.specs.Name.{Name, ◌among◌}
use Rattle.lustre.specs.Types.{Ty}
use Rattle.lustre.specs.Project.{Port, Heading, port_names}
use Rattle.lustre.specs.Line.{Note, about}
use Rattle.lustre.specs.Node.{assigns}
use Rattle.standing.specs.Standing.{Source}
use Rattle.lines.specs.Lines.{Noted}
use Rattle.lines.specs.declared.Spot.{Spot}
use Rattle.lines.specs.declared.Lines.{Lines}
use Rattle.lines.proofs.Laws.{noted_none, noted_append}
use Rattle.loops.specs.Rows.{has, Connected}
use Rattle.types.specs.Value.{Naming, Injective}
use Rattle.scope.specs.Tables.{Tables}
use Rattle.scope.specs.Sets.{Holds}
use Rattle.scope.specs.Names.{Numbers}
use Rattle.scope.proofs.Rows.{found_among, names_pairs}
use Rattle.scope.proofs.Sets.{holds_add, holds_same, among_append}

-- different numbers have different texts
pub numbers_apart : (text : Naming) (num : Name → ℕ) → Numbers text num → Injective text
numbers_apart text num back m n e = sym (back m) ∙ ap num e ∙ back n

-- the entries of ports and locals are 0 exactly for names that are not among the known ones
pub record Entries (text : Naming) (known : List Name) (sc : List ℕ) : Type 0 where
  pub each : (w : ℕ) → w < 512 → eqb (get_or sc (w + 2560) 0) 0 ≡ not (text w among known)

-- the table of ports and locals has such entries
pub entries : {S : Source} {as' : List (Name × Ty)} {rs : List (Name × List Port)} {vs : List (Name × Name)} {cs : List (Name × Ty)} {ns : List (Name × Heading)} {env : List Port} {sc : List ℕ}
    → Tables S as' rs vs cs ns env sc → Entries S.text (port_names env) sc
entries {S} {env = env} T = record { each = λ w b. found_among (S.text w) env (T.port w b) ∙ ap (λ (l : List Name). not (S.text w among l)) (names_pairs env) }

-- the notes of one name, from what the entry and the sets say of its number
abbrev known_notes : Bool → Bool → Name → List Note
known_notes unknown input x = if unknown then about 20 x ∷ [] else (if input then about 22 x ∷ [] else [])

-- the note of a name that is assigned before
abbrev again_notes : Bool → Name → List Note
again_notes again x = if again then about 21 x ∷ [] else []

-- a test turned round
swapped : {A : Type 0} (b : Bool) (x y : A) → (if not b then x else y) ≡ (if b then y else x)
swapped true x y = refl
swapped false x y = refl

module _ {num : Name → ℕ} {q : Spot} (known inputs seen more : List Name) (x : Name) {l l₁ l₂ l' : Lines} where
  -- the notes of one name, then those of the others
  assigns_one : {unknown input again : Bool} → unknown ≡ not (x among known) → input ≡ (x among inputs) → again ≡ (x among seen)
      → Noted num q (known_notes unknown input x) l l₁ → Noted num q (again_notes again x) l₁ l₂
      → Noted num q (assigns known inputs (x ∷ seen) more) l₂ l' → Noted num q (assigns known inputs seen (x ∷ more)) l l'
  unfolding assigns
  assigns_one {unknown} {input} {again} a b c f g h =
      let u : Noted num q (if x among known then (if x among inputs then about 22 x ∷ [] else []) else about 20 x ∷ []) l l₁ =
      rw (a, b, swapped (x among known) (about 20 x ∷ []) (if x among inputs then about 22 x ∷ [] else [])) at f
      in
      noted_append (noted_append u (rw c at g)) h

-- or, the other way round
or_turn : (a b : Bool) → (a || b) ≡ (b || a)
or_turn true true = refl
or_turn true false = refl
or_turn false true = refl
or_turn false false = refl

-- or, joined the other way
or_join : (a b c : Bool) → (a || (b || c)) ≡ ((a || b) || c)
or_join true b c = refl
or_join false b c = refl

-- a name is the first of a list or among the others
among_cons : (x y : Name) (ys : List Name) → (x among (y ∷ ys)) ≡ ((x among (y ∷ [])) || x among ys)
among_cons x y ys = among_append x (y ∷ []) ys

-- a name may go from the front of one list to the front of the other
moved : (x y : Name) (more seen : List Name) → (x among (more ++ (y ∷ seen))) ≡ (x among ((y ∷ more) ++ seen))
moved x y more seen =
    among_append x more (y ∷ seen)
    ∙ ap (λ (b : Bool). x among more || b) (among_cons x y seen)
    ∙ or_join (x among more) (x among (y ∷ [])) (x among seen)
    ∙ ap (λ (b : Bool). b || x among seen) (or_turn (x among more) (x among (y ∷ [])) ∙ sym (among_cons x y more))
    ∙ sym (among_append x (y ∷ more) seen)

-- once the names from i on are noted, all are, and the set has the names before and those passed
pub record Gone (ns sc ins : List ℕ) (q : Spot) (l₀ : Lines) (text : Naming) (seen : List Name) (i : ℕ) (assigned : List ℕ) (l : Lines) : Type 0 where
  pub by : List Name
  pub holds : Holds text by assigned
  pub same : (x : Name) → (x among (map text (drop i ns) ++ by)) ≡ (x among (map text ns ++ seen))
  pub noted : (num : Name → ℕ) → Numbers text num → (known inputs : List Name) → Entries text known sc → Holds text inputs ins
      → {l' : Lines} → Noted num q (assigns known inputs by (map text (drop i ns))) l l' → Noted num q (assigns known inputs seen (map text ns)) l₀ l'

-- what the loop keeps at the name with index i: the same of any texts of the names
pub record Assigning (ns sc ins assigned₀ : List ℕ) (q : Spot) (l₀ : Lines) (i : ℕ) (assigned : List ℕ) (l : Lines) : Type 0 where
  pub gone : (text : Naming) → Injective text → (seen : List Name) → Holds text seen assigned₀ → Gone ns sc ins q l₀ text seen i assigned l

-- no name is passed
pub assigning_start : {ns sc ins assigned : List ℕ} {q : Spot} {l : Lines} → Assigning ns sc ins assigned q l 0 assigned l
assigning_start = record { gone = λ text inj seen h. record { by = seen; holds = h; same = λ x. refl; noted = λ num back known inputs t i f. f } }

module _ {ns sc ins assigned₀ : List ℕ} {q : Spot} {l₀ : Lines} {i : ℕ} {assigned : List ℕ} {l : Lines} (a : Assigning ns sc ins assigned₀ q l₀ i assigned l) where
  -- one name more, where its notes are written and the set has it
  pub assigning_more : {assigned' : List ℕ} {l₁ l₂ : Lines} → i < length ns → get_or ns i 0 < 512
      → ((num : Name → ℕ) (x : Name) → num x ≡ get_or ns i 0 → Noted num q (known_notes (eqb (get_or sc (get_or ns i 0 + 2560) 0) 0) (has ins 0 (get_or ns i 0)) x) l l₁)
      → ((num : Name → ℕ) (x : Name) → num x ≡ get_or ns i 0 → Noted num q (again_notes (has assigned 0 (get_or ns i 0)) x) l₁ l₂)
      → Connected assigned 0 (get_or ns i 0) assigned' → Assigning ns sc ins assigned₀ q l₀ (i + 1) assigned' l₂
  assigning_more h b f r c = record {
    gone = λ text inj seen held.
        let w = get_or ns i 0 in
        let e = drop_more ns i 0 h in
        let more = map text (drop (i + 1) ns) in
        let d = a.gone text inj seen held in
        record {
          by = text w ∷ d.by;
          holds = holds_add inj b c d.holds;
          same = λ x. moved x (text w) more d.by ∙ (rw e at (d.same x));
          noted = λ num back known inputs t u s.
              d.noted num back known inputs t u (
              rw e
              (assigns_one known inputs d.by more (text w) (t.each w b) (u.each w b) (d.holds.each w b) (f num (text w) (back w)) (r num (text w) (back w)) s));
        };
  }

  module _ (z : length ns ≤ i) where
    -- all are noted
    pub assigning_noted : (text : Naming) (num : Name → ℕ) → Numbers text num → (known inputs seen : List Name) → Entries text known sc → Holds text inputs ins
        → Holds text seen assigned₀ → Noted num q (assigns known inputs seen (map text ns)) l₀ l
    unfolding assigns
    assigning_noted text num back known inputs seen t u held =
        let e = drop_of_length-le ns {i = i} z in
        let d = a.gone text (numbers_apart text num back) seen held in
        d.noted num back known inputs t u (rw e noted_none)

    -- and in the set
    pub assigning_holds : (text : Naming) → Injective text → (seen : List Name) → Holds text seen assigned₀ → Holds text (map text ns ++ seen) assigned
    assigning_holds text inj seen held =
        let e = drop_of_length-le ns {i = i} z in
        let d = a.gone text inj seen held in
        holds_same (λ x. rw e at (d.same x)) d.holds
