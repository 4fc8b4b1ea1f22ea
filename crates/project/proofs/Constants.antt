-- The pass over the constants, step by step: lib.rs 262.
-- Assumes nothing.
use Rattle.std.specs.Prelude.{if◌then◌else◌}
use Prim.Native.Nat.{ℕ, suc, ◌+◌, ◌<◌, ◌≤◌}
use native.Mathlib.Numerals.{add-one}
use mathlib.Core.Path.{◌≡◌}
use mathlib.Core.Bool.{false}
use mathlib.Core.List.{List, [], ◌∷◌, map}
use mathlib.Core.Option.{none}
use lib.ListN.{length, get_or}
use Rattle.lustre.specs.Name.{Name, ◌among◌}
use Rattle.lustre.specs.Project.{Constant, skeleton, all_constants}
use Rattle.lustre.specs.Line.{Note, Line, at_constant, about}
use Rattle.lustre.specs.Answer.{place_number, or_none}
use Rattle.lustre.specs.Resolve.{Scope, context}
use Rattle.lustre.specs.Report.{line, constant_notes, constant_lines}
use Rattle.lines.specs.Lines.{Noted}
use Rattle.lines.specs.declared.Spot.{Spot}
use Rattle.lines.specs.declared.Lines.{Lines}
use Rattle.scope.specs.Model.{Model}
use Rattle.scope.specs.Tables.{Declared}
use Rattle.scope.specs.Sets.{Holds}
use Rattle.scope.specs.Writes.{Reports}
use Rattle.scope.proofs.Sets.{holds_none}
use Rattle.scope.proofs.Writes.{reports_none, reports_append, reports_noted}
use Rattle.loops.specs.Rows.{has}
use Rattle.tables.specs.Heads.{Head, heads, constants_among, Meets}
use Rattle.tables.proofs.Repeats.{Spotted}
use Rattle.tables.proofs.Heads.{meets, constants_met, past, constant_here, no_more}
use Rattle.constants.specs.Constants.{ConstantGiven}

-- the notes of a constant, where these names stand before it
abbrev notes_of : Scope → List Name → Constant → List Note
notes_of Γ xs c = if c.name among xs then about 3 c.name ∷ [] else constant_notes Γ c

-- what the check of the constant at a record does, whatever names the set holds
abbrev pub ConstantChecked : (ks ws sc : List ℕ) (at : ℕ) (q : Spot) (seen : List ℕ) (l : Lines) (seen' : List ℕ) (l' : Lines) → Type 0
ConstantChecked ks ws sc at q seen l seen' l' = (G : ConstantGiven ks ws sc at) (xs : List Name) → Holds G.model.text xs seen → Noted G.model.number q (notes_of (context (skeleton G.model.P)) xs G.c) l l' × Holds G.model.text (G.c.name ∷ xs) seen'

-- The state of the pass at a record: the heads still to come, the names of the constants before, which the set holds, and how the lines of
-- the constants still to come complete the report.
pub record Checking {ks ws : List ℕ} (g : Model ks ws) (l₀ : Lines) (at number : ℕ) (seen : List ℕ) (l : Lines) : Type 0 where
  pub hs : List Head
  pub to_come : Meets g at hs
  pub names : List Name
  pub held : Holds g.text names seen
  pub rest : {l' : Lines} → Reports g.number (constant_lines (context (skeleton g.P)) number names (constants_among hs)) l l' → Reports g.number (constant_lines (context (skeleton g.P)) 0 [] (all_constants (skeleton g.P))) l₀ l'

module _ {ks ws : List ℕ} (g : Model ks ws) {l₀ : Lines} where
  -- no constant yet
  pub checking_start : {seen : List ℕ} → ((b : ℕ) → has seen 0 b ≡ false) → Checking g l₀ 1 0 seen l₀
  checking_start h = record {
    hs = heads g.P;
    to_come = meets g;
    names = [];
    held = holds_none g.text h;
    rest = λ r. rw (constants_met g.P) at r;
  }

  module _ {at number : ℕ} {seen : List ℕ} {l : Lines} (d : Checking g l₀ at number seen l) where
    -- a record that begins no constant
    pub checking_past : at < length ks → (get_or ks at 0 ≡ 9 → ⊥) → Checking g l₀ (at + 1) number seen l
    checking_past b a =
        let p = past g d.to_come b in
        record { hs = p.rest; to_come = p.onward; names = d.names; held = d.held; rest = λ r. d.rest (rw (p.constants a) r) }

    module _ {sc : List ℕ} (declared : Declared g [] sc) where
      -- what the check of a constant asks
      abbrev pub checking_given : at < length ks → get_or ks at 0 ≡ 9 → ConstantGiven ks ws sc at
      checking_given b k =
          let c = constant_here g d.to_come b k in
          record { model = g; c = c.constant; stands = c.stands; shallow = c.shallow; declared = declared }

      -- a constant, with its lines
      pub checking_constant : {seen' : List ℕ} {l' : Lines} {q : Spot} → at < length ks → get_or ks at 0 ≡ 9 → Spotted q 3 number → ConstantChecked ks ws sc at q seen l seen' l' → Checking g l₀ (at + 1) (number + 1) seen' l'
      unfolding constants_among constant_lines line place_number or_none
      checking_constant b k spot w =
          let c = constant_here g d.to_come b k in
          let Γ = context (skeleton g.P) in
          let ns = notes_of Γ d.names c.constant in
          let done = w (checking_given b k) d.names d.held in
          let lines = reports_noted at_constant none ns done.0 spot.place spot.number spot.equation in
          let own : List Line = map (line at_constant number) ns in
          let later : List Line = constant_lines Γ (suc number) (c.constant.name ∷ d.names) (constants_among c.rest) in
          record {
            hs = c.rest;
            to_come = c.onward;
            names = c.constant.name ∷ d.names;
            held = done.1;
            rest = λ r. d.rest (rw c.are (reports_append g.number own later lines (rw add-one at r)));
          }

    -- every record has been looked at
    pub checking_done : length ks ≤ at → Reports g.number (constant_lines (context (skeleton g.P)) 0 [] (all_constants (skeleton g.P))) l₀ l
    unfolding constants_among constant_lines
    checking_done b = d.rest (rw (no_more g d.to_come b) (reports_none g.number))
