-- The pass that enters constants and nodes, step by step: lib.rs 174.
-- Assumes nothing.
use Rattle.std.specs.Prelude.{if◌then◌else◌}
use Prim.Native.Nat.{ℕ, suc, ◌+◌, ◌≤◌, ◌<◌}
use native.Mathlib.Numerals.{add-one}
use mathlib.Core.Path.{◌≡◌, refl, ap, sym, ◌∙◌}
use mathlib.Core.Bool.{not}
use mathlib.Core.List.{List, [], ◌∷◌, ◌++◌, map, map-append, append_assoc, append-nil}
use lib.Dec.{eqb}
use lib.ListN.{length, get_or, set}
use Rattle.lustre.specs.Name.{Name, ◌among◌, mem}
use Rattle.lustre.specs.Types.{Ty}
use Rattle.lustre.specs.Project.{Constant, Heading, heading, skeleton, all_types, all_constants, all_nodes}
use Rattle.lustre.specs.Line.{Line, at_node, about}
use Rattle.lustre.specs.Answer.{place_number}
use Rattle.lustre.specs.Report.{line, node_name_lines}
use Rattle.lines.specs.Lines.{Noted}
use Rattle.lines.specs.declared.Spot.{Spot}
use Rattle.lines.specs.declared.Lines.{Lines}
use Rattle.rules.specs.World.{HeadingAt}
use Rattle.scope.specs.Model.{Model}
use Rattle.scope.specs.Tables.{records, TablesOf, Declared}
use Rattle.scope.specs.Writes.{Reports}
use Rattle.scope.proofs.Rows.{found_among, tables_constant, tables_node}
use Rattle.scope.proofs.World.{apart}
use Rattle.scope.proofs.Writes.{reports_none, reports_append}
use Rattle.tables.specs.Heads.{Head, heads, constants_among, nodes_among, Meets}
use Rattle.tables.specs.Entered.{SameNames}
use Rattle.tables.proofs.Repeats.{Spotted, repeated_entry, same_snoc}
use Rattle.tables.proofs.Heads.{meets, constants_met, headings_met, past, constant_here, node_here, no_more}

-- a constant and a node as the tables have them
abbrev typed : Constant → Name × Ty
typed c = (c.name, c.type)

abbrev titled : Heading → Name × Heading
titled n = (n.name, n)

-- the names of headings, as their table has them
abbrev titles : List Heading → List Name
titles ns = map (λ e. e.0) (map titled ns)

-- The state of the pass at a record: the heads still to come, the constants and headings entered so far, the names of these, and how the
-- lines of the nodes still to come complete the report.
pub record Declaring {ks ws : List ℕ} (g : Model ks ws) (o₀ : Lines) (at number : ℕ) (sc : List ℕ) (o : Lines) : Type 0 where
  pub hs : List Head
  pub to_come : Meets g at hs
  pub cs : List Constant
  pub constants : cs ++ constants_among hs ≡ all_constants (skeleton g.P)
  pub ns : List Heading
  pub nodes : ns ++ map heading (nodes_among hs) ≡ all_nodes (skeleton g.P)
  pub tables : TablesOf (records g) (all_types (skeleton g.P)) cs ns [] sc
  pub seen : List Name
  pub same : SameNames seen (titles ns)
  pub rest : {o' : Lines} → Reports g.number (node_name_lines number seen (map heading (nodes_among hs))) o o' → Reports g.number (node_name_lines 0 [] (all_nodes (skeleton g.P))) o₀ o'

module _ {ks ws : List ℕ} (g : Model ks ws) {o₀ : Lines} where
  -- nothing entered yet
  pub declaring_start : {sc : List ℕ} → TablesOf (records g) (all_types (skeleton g.P)) [] [] [] sc → Declaring g o₀ 1 0 sc o₀
  unfolding mem
  declaring_start T = record {
    hs = heads g.P;
    to_come = meets g;
    cs = [];
    constants = constants_met g.P;
    ns = [];
    nodes = headings_met g.P;
    tables = T;
    seen = [];
    same = λ x. refl;
    rest = λ d. rw (headings_met g.P) at d;
  }

  module _ {at number : ℕ} {sc : List ℕ} {o : Lines} (d : Declaring g o₀ at number sc o) where
    -- a record that begins neither a constant nor a node
    pub declaring_past : at < length ks → (get_or ks at 0 ≡ 9 → ⊥) → (10 ≤ get_or ks at 0 → get_or ks at 0 ≤ 12 → ⊥) → Declaring g o₀ (at + 1) number sc o
    declaring_past l a b =
        let p = past g d.to_come l in
        record {
          hs = p.rest;
          to_come = p.onward;
          cs = d.cs;
          constants = rw (p.constants a) at d.constants;
          ns = d.ns;
          nodes = rw (p.nodes b) at d.nodes;
          tables = d.tables;
          seen = d.seen;
          same = d.same;
          rest = λ r. d.rest (rw (p.nodes b) r);
        }

    -- the name of a constant or a node is a number below 512, within the words
    pub record NamedHere : Type 0 where
      pub in_words : at < length ws
      pub small : get_or ws at 0 < 512

    -- a constant's name is such a number
    pub constant_name : at < length ks → get_or ks at 0 ≡ 9 → NamedHere
    constant_name l k = let c = constant_here g d.to_come l k in record { in_words = c.stands.head.in_words; small = c.stands.name.small }

    -- so is a node's
    pub node_name : at < length ks → 10 ≤ get_or ks at 0 → get_or ks at 0 ≤ 12 → NamedHere
    node_name l a b = let c = node_here g d.to_come l a b in record { in_words = c.stands.head.in_words; small = c.stands.name.small }

    -- a constant
    pub declaring_constant : at < length ks → get_or ks at 0 ≡ 9 → Declaring g o₀ (at + 1) number (set sc (get_or ws at 0 + 1536) (at + 1)) o
    unfolding constants_among nodes_among
    declaring_constant l k =
        let c = constant_here g d.to_come l k in
        let T = tables_constant (get_or ws at 0) at c.constant.type (apart g) c.stands.name.small (record { stands = c.stands.type; few = c.shallow.type }) d.tables in
        let q : map typed d.cs ++ ((g.text (get_or ws at 0), c.constant.type) ∷ []) ≡ map typed (d.cs ++ (c.constant ∷ [])) = rw c.stands.name.text (sym (map-append typed d.cs (c.constant ∷ []))) in
        record {
          hs = c.rest;
          to_come = c.onward;
          cs = d.cs ++ (c.constant ∷ []);
          constants = append_assoc d.cs (c.constant ∷ []) (constants_among c.rest) ∙ (rw c.are at d.constants);
          ns = d.ns;
          nodes = rw c.are at d.nodes;
          tables = rw q at T;
          seen = d.seen;
          same = d.same;
          rest = λ r. d.rest (rw c.are r);
        }

    -- a node, with the note of a name that the table has already
    pub declaring_node : {o' : Lines} {q : Spot} → at < length ks → 10 ≤ get_or ks at 0 → get_or ks at 0 ≤ 12 → Spotted q 4 number
        → Noted g.number q (if eqb (get_or sc (get_or ws at 0 + 2048) 0) 0 then [] else about 1 (g.text (get_or ws at 0)) ∷ []) o o'
        → Declaring g o₀ (at + 1) (number + 1) (set sc (get_or ws at 0 + 2048) (at + 1)) o'
    unfolding constants_among nodes_among heading place_number node_name_lines
    declaring_node l a b spot w =
        let c = node_here g d.to_come l a b in
        let h = heading c.node in
        let x = g.text (get_or ws at 0) in
        let name : x ≡ h.name = c.stands.name.text in
        let here : HeadingAt (records g) at h = record { head = c.stands.head; inputs = record { stand = c.stands.inputs; few = c.shallow.inputs }; outputs = record { stand = c.stands.outputs; few = c.shallow.outputs } } in
        let T = tables_node (get_or ws at 0) at h (apart g) c.stands.name.small here d.tables in
        let q : map titled d.ns ++ ((x, h) ∷ []) ≡ map titled (d.ns ++ (h ∷ [])) = rw name (sym (map-append titled d.ns (h ∷ []))) in
        let new = found_among x (map titled d.ns) (d.tables.node (get_or ws at 0) c.stands.name.small) ∙ ap not (sym (d.same x)) in
        let lines = rw name at (repeated_entry at_node 1 x (x among d.seen) (eqb (get_or sc (get_or ws at 0 + 2048) 0) 0) new spot w) in
        let own : List Line = if h.name among d.seen then line at_node number (about 1 h.name) ∷ [] else [] in
        let later : List Line = node_name_lines (suc number) (h.name ∷ d.seen) (map heading (nodes_among c.rest)) in
        record {
          hs = c.rest;
          to_come = c.onward;
          cs = d.cs;
          constants = rw c.are at d.constants;
          ns = d.ns ++ (h ∷ []);
          nodes = append_assoc d.ns (h ∷ []) (map heading (nodes_among c.rest)) ∙ (rw c.are at d.nodes);
          tables = rw q at T;
          seen = h.name ∷ d.seen;
          same = λ y. same_snoc h.name h d.seen (map titled d.ns) d.same y ∙ rw (map-append titled d.ns (h ∷ []));
          rest = λ r. d.rest (rw c.are (reports_append g.number own later lines (rw add-one at r)));
        }

    -- every record has been looked at
    pub declaring_done : length ks ≤ at → Declared g [] sc × Reports g.number (node_name_lines 0 [] (all_nodes (skeleton g.P))) o₀ o
    unfolding constants_among nodes_among node_name_lines
    declaring_done l =
        let e = no_more g d.to_come l in
        let cs : d.cs ≡ all_constants (skeleton g.P) = sym (append-nil d.cs) ∙ (rw e at d.constants) in
        let ns : d.ns ≡ all_nodes (skeleton g.P) = sym (append-nil d.ns) ∙ (rw e at d.nodes) in
        (rw (cs, ns) at d.tables, d.rest (rw e (reports_none g.number)))
