-- The lines of aliases that do not resolve.
-- Assumes nothing.
use Prim.Native.Nat.{ℕ, zero, suc, ◌+◌, ◌-◌, ◌≤◌, ◌<◌}
use native.Mathlib.Nat.{le_refl}
use native.Mathlib.Omega.{arith}
use mathlib.Core.Path.{◌≡◌, refl, sym, ◌∙◌, ap, subst}
use mathlib.Core.Logic.{⊎_elim}
use mathlib.Core.Bool.{Bool, true, false}
use mathlib.Core.List.{List, [], ◌∷◌, ◌++◌, map, Memᴰ}
use mathlib.Core.Option.{Option, none, some}
use lib.ListN.{get_or}
use borrow.Author.Tests.{eqb-true}
use Rattle.lustre.specs.Name.{Name, ◌is◌, ◌among◌, lookup, set_of}
use Rattle.lustre.specs.Types.{Ty, Named}
use Rattle.lustre.specs.Project.{Alias, Record, Enum, skeleton, all_types}
use Rattle.demands.specs.Reading.{Each}
use Rattle.demands.proofs.Sets.{split, mustnt, mem_in}
use Rattle.demands.proofs.Eaches.{each_member}
use Rattle.demands.proofs.Orders.{is_test}
use Rattle.loops.specs.Rows.{passing}
use Rattle.loops.proofs.Rows.{passing_pass, passing_miss}
use Rattle.loops.proofs.Order.{set_texts}
use Rattle.standing.specs.Standing.{DeclAt}
use Rattle.lines.specs.declared.Lines.{Lines}
use Rattle.scope.specs.Model.{Model}
use Rattle.lustre.specs.Line.{Line, at_type, about}
use Rattle.lustre.specs.Resolve.{context, try_resolve}
use Rattle.lustre.specs.Report.{line, alias_numbers, alias_line, alias_lines}
use Rattle.types.specs.Scope.{is_some, NameResolves}
use Rattle.rules.specs.World.{Found}
use Rattle.rules.proofs.Laws.{found_not, found, false_true}
use Rattle.scope.specs.Writes.{Reports}
use Rattle.scope.proofs.Rows.{found_among}
use Rattle.scope.proofs.World.{apart, types_targets}
use Rattle.scope.proofs.Writes.{reports_append}
use Rattle.tables.specs.Entered.{TypesHere, one_alias, AliasesBelow}
use Rattle.tables.specs.Heads.{Head, a_package, a_type, a_constant, a_node, types_among, Meets, at_end, passed, met}
use Rattle.tables.proofs.Heads.{meets, types_met}

-- no line for a name that is no alias
line_absent : (a : Name) (o : Option Ty) {l : Option ℕ} → l ≡ none → alias_line a o l ≡ []
unfolding alias_line
line_absent a none e = rw e
line_absent a (some t) e = refl

-- none for a name that resolves
line_resolved : (a : Name) (o : Option Ty) (l : Option ℕ) → is_some o ≡ true → alias_line a o l ≡ []
unfolding alias_line
line_resolved a none l e = false_true e
line_resolved a (some t) l e = refl

-- one for an alias that does not
line_there : (a : Name) (o : Option Ty) {l : Option ℕ} (i : ℕ) → is_some o ≡ false → l ≡ some i → alias_line a o l ≡ line at_type i (about 8 a) ∷ []
unfolding alias_line
line_there a none i h e = rw e
line_there a (some t) i h e = false_true (sym h)

module _ {ks ws sc nums : List ℕ} (g : TypesHere ks ws sc nums) where
  module _ (name : ℕ) (small : name < 512) where
    -- what the table of numbers says of a name
    entry : Found (λ (p i : ℕ). p ≡ i) (get_or nums name 0) (lookup (g.model.text name) (alias_numbers 0 (all_types (skeleton g.model.P))))
    entry = let z : name + 0 ≡ name = omega arith in rw z at (g.numbers name small)

    -- what `resolves` answers
    resolved : {r : Bool} → NameResolves ks ws sc name r → r ≡ is_some (try_resolve (context (skeleton g.model.P)).alias 65 [] (Named (g.model.text name)))
    unfolding context
    resolved h = h g.model.text (context (skeleton g.model.P)).alias (types_targets g.tables).1

    -- no alias
    pub alias_absent : get_or nums name 0 ≡ 0 → one_alias g.model (g.model.text name) ≡ []
    alias_absent e = line_absent (g.model.text name) (try_resolve (context (skeleton g.model.P)).alias 65 [] (Named (g.model.text name))) (found_not entry e)

    -- an alias that resolves
    pub alias_resolved : {r : Bool} → NameResolves ks ws sc name r → r ≡ true → one_alias g.model (g.model.text name) ≡ []
    alias_resolved h e = line_resolved (g.model.text name) (try_resolve (context (skeleton g.model.P)).alias 65 [] (Named (g.model.text name))) (lookup (g.model.text name) (alias_numbers 0 (all_types (skeleton g.model.P)))) (sym (resolved h) ∙ e)

    -- and one that does not
    pub alias_there : {r : Bool} → NameResolves ks ws sc name r → r ≡ false → (get_or nums name 0 ≡ 0 → ⊥) → one_alias g.model (g.model.text name) ≡ line at_type (get_or nums name 0 - 1) (about 8 (g.model.text name)) ∷ []
    alias_there h e n =
        let z : get_or nums name 0 ≡ get_or nums name 0 - 1 + 1 = omega (arith, n) in
        let f = found entry z in
        line_there (g.model.text name) (try_resolve (context (skeleton g.model.P)).alias 65 [] (Named (g.model.text name))) (get_or nums name 0 - 1) (sym (resolved h) ∙ e) (f.is ∙ ap (λ (i : ℕ). some i) (sym f.there))

-- ---- all aliases, in name order

-- the name of each alias among heads has a number below the number of names
module _ {ks ws : List ℕ} (g : Model ks ws) (below : AliasesBelow ks ws g.names) where
  -- a number below the number of names
  abbrev HasNumber : Name → Type 0
  HasNumber x = (n : ℕ) × (n < g.names) × (g.text n ≡ x)

  -- by the heads that a pass meets
  numbered_among : {at : ℕ} {hs : List Head} → Meets g at hs → (i j : ℕ) → Each HasNumber (map (λ e. e.0) (alias_numbers j (map (λ e. e.1) (types_among i hs))))
  unfolding types_among alias_numbers DeclAt
  numbered_among at_end i j = tt
  numbered_among (passed h k m) i j = numbered_among m i j
  numbered_among (met {h = a_package} s m) i j = numbered_among m (suc i) j
  numbered_among (met {at} {h = a_type (Alias x t)} s m) i j = ((get_or ws at 0, below at s.0.0.in_kinds s.0.0.kind, s.0.1.text), numbered_among m i (suc j))
  numbered_among (met {h = a_type (Record x fs)} s m) i j = numbered_among m i (suc j)
  numbered_among (met {h = a_type (Enum x vs)} s m) i j = numbered_among m i (suc j)
  numbered_among (met {h = a_constant c} s m) i j = numbered_among m i j
  numbered_among (met {h = a_node n} s m) i j = numbered_among m i j

  -- so of all aliases
  all_numbered : Each HasNumber (map (λ e. e.0) (alias_numbers 0 (all_types (skeleton g.P))))
  all_numbered = rw (types_met g.P) (numbered_among (meets g) 0 0)

module _ {ks ws sc nums : List ℕ} (g : TypesHere ks ws sc nums) where
  -- the aliases with their numbers among the types
  abbrev pub numbers_here : List (Name × ℕ)
  numbers_here = alias_numbers 0 (all_types (skeleton g.model.P))

  -- a number's text is an alias
  abbrev pub is_alias : ℕ → Bool
  is_alias b = g.model.text b among map (λ e. e.0) numbers_here

  -- the lines of those of the k numbers from j on that are aliases
  abbrev pub lines_from : ℕ → ℕ → List Line
  lines_from k j = alias_lines (context (skeleton g.model.P)) numbers_here (map g.model.text (passing is_alias k j))

  -- one number's line, if it has one, and the rest
  lines_step : (k j : ℕ) → j < 512 → lines_from (suc k) j ≡ one_alias g.model (g.model.text j) ++ lines_from k (j + 1)
  unfolding alias_lines
  lines_step k j h =
      ⊎_elim
      (λ (e : is_alias j ≡ true). rw (passing_pass is_alias k j e))
      (λ (e : is_alias j ≡ false).
      let z : get_or nums j 0 ≡ 0 = eqb-true (get_or nums j 0) 0 (found_among (g.model.text j) numbers_here (entry g j h) ∙ rw e) in
      rw (passing_miss is_alias k j e, alias_absent g j h z))
      (split (is_alias j))

  -- none pass
  none_pass : (k j : ℕ) → ((b : ℕ) → j ≤ b → b < j + k → is_alias b ≡ false) → passing is_alias k j ≡ []
  unfolding passing
  none_pass zero j h = refl
  none_pass (suc k) j h = passing_miss is_alias k j (h j (le_refl j) (omega arith)) ∙ none_pass k (j + 1) (λ b l u. h b (omega arith) (omega arith))

  -- where the aliases' names have numbers below the number of names
  module _ (below : AliasesBelow ks ws g.model.names) where
    -- each alias has a number
    numbered_here : (x : Name) → Memᴰ x (map (λ e. e.0) numbers_here) → (n : ℕ) × (n < g.model.names) × (g.model.text n ≡ x)
    numbered_here x m = each_member (HasNumber g.model below) (map (λ e. e.0) numbers_here) x m (all_numbered g.model below)

    -- that number is below the number of names
    within : (b : ℕ) → is_alias b ≡ true → b < g.model.names
    within b e =
        let n = numbered_here (g.model.text b) (mem_in ◌is◌ is_test (g.model.text b) (map (λ e. e.0) numbers_here) e) in
        subst (λ (i : ℕ). i < g.model.names) (apart g.model n.0 b n.2) n.1

    -- all the lines
    pub lines_all : lines_from 512 0 ≡ alias_lines (context (skeleton g.model.P)) numbers_here (set_of (map (λ e. e.0) numbers_here))
    lines_all =
        ap (alias_lines (context (skeleton g.model.P)) numbers_here)
        (sym (set_texts g.model.names g.model.text g.model.increasing is_alias (map (λ e. e.0) numbers_here) (λ b h. within b) (λ b h. refl) g.model.some_names numbered_here))

    -- none behind the last name
    pub lines_none : (j : ℕ) → g.model.names ≤ j → lines_from (512 - j) j ≡ []
    unfolding alias_lines
    lines_none j h = rw (none_pass (512 - j) j (λ b l u. mustnt (is_alias b) (λ e. (let w = within b e in omega arith))))

  -- the lines of a name and those behind it
  pub reports_alias : {j : ℕ} {o o₁ o' : Lines} → j < 512 → Reports g.model.number (one_alias g.model (g.model.text j)) o o₁ → Reports g.model.number (lines_from (512 - (j + 1)) (j + 1)) o₁ o' → Reports g.model.number (lines_from (512 - j) j) o o'
  reports_alias {j = j} h d f =
      let z : 512 - j ≡ suc (512 - (j + 1)) = omega arith in
      rw (z, lines_step (512 - (j + 1)) j h) (reports_append g.model.number (one_alias g.model (g.model.text j)) (lines_from (512 - (j + 1)) (j + 1)) d f)
