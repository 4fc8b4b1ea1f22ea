-- A node's lists of ports as they stand, and what the start of its check does with them.
-- Assumes nothing.
use Prim.Native.Nat.{ℕ, suc, ◌+◌}
use native.Mathlib.Omega.{arith}
use mathlib.Core.Path.{◌≡◌, refl, ◌∙◌, ap}
use mathlib.Core.List.{List, [], ◌∷◌, ◌++◌, append-nil}
use lib.ListN.{length, get_or}
use Rattle.lustre.specs.Name.{Name}
use Rattle.lustre.specs.Project.{Port, Equation, Node, port_names}
use Rattle.lustre.specs.Line.{bare}
use Rattle.lustre.specs.Node.{repeated, opening_notes}
use Rattle.input.specs.Depths.{ShallowNode}
use Rattle.standing.specs.Standing.{source, NodeAt, ports_size, outputs_from, locals_from, equations_from, probes_from}
use Rattle.lines.specs.Lines.{Noted}
use Rattle.lines.specs.declared.Spot.{Spot}
use Rattle.lines.specs.declared.Lines.{Lines}
use Rattle.lines.proofs.Laws.{noted_none, noted_append}
use Rattle.types.specs.Value.{Naming, Injective}
use Rattle.rules.specs.World.{PortsHere}
use Rattle.scope.specs.Names.{NamesHere}
use Rattle.scope.specs.Sets.{Holds}
use Rattle.scope.proofs.World.{apart}
use Rattle.ports.specs.Ports.{PortsEntered}
use Rattle.nodes.specs.Nodes.{NodeGiven, NodeOpened, imported_notes}

-- ---- where a node's lists stand

module _ {ks ws : List ℕ} {text : Naming} {n : Node} {at : ℕ} (s : NodeAt (source ks ws text) n at) (f : ShallowNode n) where
  -- its inputs
  abbrev pub inputs_here : {i : ℕ} → i ≡ at + 1 → PortsHere ks ws i
  inputs_here e = record { text = text; ps = n.inputs; listed = rw e (record { stand = s.inputs; few = f.inputs }) }

  -- its outputs
  abbrev pub outputs_here : {i : ℕ} → i ≡ outputs_from n at → PortsHere ks ws i
  outputs_here e = record { text = text; ps = n.outputs; listed = rw e (record { stand = s.outputs; few = f.outputs }) }

  -- its locals
  abbrev pub locals_here : {i : ℕ} → i ≡ locals_from n at → PortsHere ks ws i
  locals_here e = record { text = text; ps = n.locals; listed = rw e (record { stand = s.locals; few = f.locals }) }

  -- its probes
  abbrev pub probes_here : {i : ℕ} → i ≡ probes_from n at → NamesHere ws i
  probes_here e = record { ks = ks; text = text; xs = n.probes; listed = rw e s.probes }

  -- the list behind its locals is that of its equations
  pub lists_end : {i j k : ℕ} → ((h : PortsHere ks ws (at + 1)) → i ≡ at + 1 + ports_size h.ps) → ((h : PortsHere ks ws i) → j ≡ i + ports_size h.ps)
      → ((h : PortsHere ks ws j) → k ≡ j + ports_size h.ps) → k ≡ equations_from n at
  lists_end first second third =
      let a = first (inputs_here refl) in
      let b = second (outputs_here a) ∙ ap (λ (k : ℕ). k + ports_size n.outputs) a in
      third (locals_here b) ∙ ap (λ (k : ℕ). k + ports_size n.locals) b

  -- and has their number
  pub equations_many : {k : ℕ} → k ≡ equations_from n at → get_or ws k 0 ≡ length n.equations
  equations_many e = rw e s.equations.many

-- ---- names of ports

-- names of ports after ports
pub names_append : (ps rs : List Port) → port_names (ps ++ rs) ≡ port_names ps ++ port_names rs
unfolding port_names
names_append [] rs = refl
names_append (p ∷ ps) rs = ap (λ (l : List Name). p.0 ∷ l) (names_append ps rs)

-- no ports have no names
names_nil : port_names [] ≡ []
unfolding port_names
names_nil = refl

-- the notes on names that repeat, list by list
opening_parts : (n : Node)
    → opening_notes n ≡ repeated 10 (port_names []) (port_names n.inputs) ++ repeated 11 (port_names n.inputs) (port_names n.outputs) ++ repeated 12 (port_names (n.inputs ++ n.outputs)) (port_names n.locals)
unfolding opening_notes
opening_parts n = rw (names_append n.inputs n.outputs, names_nil)

-- ---- the start of a check

module _ {ks ws sc : List ℕ} {at : ℕ} (g : NodeGiven ks ws sc at) {q : Spot} {ins ins' sc₁ sc₂ sc₃ : List ℕ} {l l₁ l₂ l₃ : Lines} {r₁ r₂ r₃ : ℕ} where
  -- the inputs, outputs and locals are entered one after another
  pub opened : Holds g.model.text [] ins
      → ((h : PortsHere ks ws (at + 1)) → Injective h.text → (xs : List Name) → Holds h.text xs ins → Holds h.text (port_names h.ps ++ xs) ins')
      → ((h : PortsHere ks ws (at + 1)) → Injective h.text → PortsEntered (source ks ws h.text) h.ps (at + 1) 10 q sc l r₁ sc₁ l₁)
      → ((h : PortsHere ks ws r₁) → Injective h.text → PortsEntered (source ks ws h.text) h.ps r₁ 11 q sc₁ l₁ r₂ sc₂ l₂)
      → ((h : PortsHere ks ws r₂) → Injective h.text → PortsEntered (source ks ws h.text) h.ps r₂ 12 q sc₂ l₂ r₃ sc₃ l₃)
      → NodeOpened g.model g.n at q l (record { inputs = at + 1; outputs = r₁; locals = r₂; equations = r₃ }) sc₃ ins' l₃
  opened none names first second third =
      let s = g.node.stands in
      let f = g.node.shallow in
      let i = apart g.model in
      let a = first (inputs_here s f refl) i in
      let b = second (outputs_here s f a.next) i in
      let p : r₂ ≡ locals_from g.n at = b.next ∙ ap (λ (k : ℕ). k + ports_size g.n.outputs) a.next in
      let c = third (locals_here s f p) i in
      let t = a.tables _ _ _ _ _ [] g.declared in
      let u = b.tables _ _ _ _ _ g.n.inputs t in
      let v = c.tables _ _ _ _ _ (g.n.inputs ++ g.n.outputs) u in
      record {
        lists = record { inputs = refl; outputs = a.next; locals = p; equations = c.next ∙ ap (λ (k : ℕ). k + ports_size g.n.locals) p };
        declared = v;
        ins = rw (append-nil (port_names g.n.inputs)) at (names (inputs_here s f refl) i [] none);
        noted = rw (opening_parts g.n) (
            noted_append
            (noted_append (a.noted g.model.number g.model.back _ _ _ _ _ [] g.declared) (b.noted g.model.number g.model.back _ _ _ _ _ g.n.inputs t))
            (c.noted g.model.number g.model.back _ _ _ _ _ (g.n.inputs ++ g.n.outputs) u));
      }

-- ---- imported nodes

module _ {num : Name → ℕ} {q : Spot} {l : Lines} where
  -- no equations, no line
  pub imported_none : (qs : List Equation) → length qs ≡ 0 → Noted num q (imported_notes qs) l l
  imported_none [] h = noted_none
  imported_none (e ∷ qs) h = absurd (let k : suc (length qs) ≡ 0 = h in omega arith)

  -- equations have one line
  pub imported_some : (qs : List Equation) {l' : Lines} → (length qs ≡ 0 → ⊥) → Noted num q (bare 2 ∷ []) l l' → Noted num q (imported_notes qs) l l'
  imported_some [] h d = absurd (h refl)
  imported_some (e ∷ qs) h d = d
