-- Lists of ports one by one: the first port of a name, and what stands in a list of known length.
-- Assumes nothing.
use Rattle.std.specs.Prelude.{if◌then◌else◌}
use Prim.Native.Nat.{ℕ, ◌+◌}
use native.Mathlib.Omega.{arith}
use mathlib.Core.Path.{◌≡◌, refl, sym, ap, ◌∙◌}
use mathlib.Core.Bool.{Bool, true, false}
use mathlib.Core.List.{List, [], ◌∷◌}
use mathlib.Core.Option.{none, some}
use lib.ListN.{length, get_or}
use Rattle.lustre.specs.Name.{Name, ◌is◌, find}
use Rattle.lustre.specs.Types.{Ty, Tuple, levels, unit_type}
use Rattle.lustre.specs.Project.{Port, Heading, NodeKind, Function, Operator, Imported, is_operator}
use Rattle.lustre.specs.Grammar.{node_kind}
use Rattle.lustre.specs.Line.{Note}
use Rattle.lustre.specs.Infer.{outputs_type}
use Rattle.input.specs.Depths.{ShallowPorts}
use Rattle.standing.specs.Standing.{Source, source, word, RecAt, NameAt, EachAt, sizes_of, PortAt, port_size, ports_size}
use Rattle.standing.proofs.Sizes.{no_items}
use Rattle.lines.specs.Lines.{Noted}
use Rattle.lines.specs.declared.Lines.{Lines}
use Rattle.lines.specs.declared.Spot.{Spot}
use Rattle.lines.proofs.Laws.{noted_none}
use Rattle.types.specs.Value.{Naming, Injective}
use Rattle.types.proofs.Truths.{not_so}
use Rattle.demands.proofs.Orders.{is_test}
use Rattle.rules.specs.World.{Typed, Listed, HeadingAt, PortsHere}
use Rattle.rules.specs.Walk as walk

-- ---- ports one by one

-- the first of n ports at a position, and the others
pub record FirstPort (S : Source) (ps : List Port) (at n : ℕ) : Type 0 where
  pub p : Port
  pub others : List Port
  pub are : ps ≡ p ∷ others
  pub head : RecAt S at 7
  pub name : NameAt S at p.0
  pub typed : Typed S p.1 (at + 1)
  pub stand : EachAt (PortAt S) port_size others (at + 1 + levels p.1)
  pub few : ShallowPorts others
  pub fewer : length others + 1 ≡ n

pub first_port : (S : Source) (ps : List Port) (at n : ℕ) → length ps ≡ n → (n ≡ 0 → ⊥) → EachAt (PortAt S) port_size ps at → ShallowPorts ps → FirstPort S ps at n
unfolding EachAt
first_port S [] at n c h s f = absurd (h (sym c))
first_port S (p ∷ ps) at n c h s f =
    let q : at + (1 + levels p.1) ≡ at + 1 + levels p.1 = omega arith in
    record {
      p = p;
      others = ps;
      are = refl;
      head = s.0.head;
      name = s.0.name;
      typed = record { stands = s.0.type; few = f.0 };
      stand = rw q at s.1;
      few = f.1;
      fewer = omega arith;
    }

-- ---- the first port of a name

module _ (S : Source) (apart : Injective S.text) (name : ℕ) where
  -- a name is found by its number
  same_name : (at : ℕ) (x : Name) → NameAt S at x → word S at ≡ name → (S.text name is x) ≡ true
  same_name at x n e = rw (← n.text, e) (is_test.self (S.text name))

  other_name : (at : ℕ) (x : Name) → NameAt S at x → (word S at ≡ name → ⊥) → (S.text name is x) ≡ false
  other_name at x n h = not_so (S.text name is x) (λ q. h (apart (word S at) name (n.text ∙ sym (is_test.same (S.text name) x q))))

  module _ {ps : List Port} {at next left : ℕ} (f : walk.FirstPort S ps at next left) where
    pub find_here : word S at ≡ name → find (S.text name) ps ≡ some f.p.1
    unfolding find
    find_here e = rw (f.are, same_name at f.p.0 f.name e)

    pub find_later : (word S at ≡ name → ⊥) → find (S.text name) ps ≡ find (S.text name) f.others
    unfolding find
    find_later h = rw (f.are, other_name at f.p.0 f.name h)

pub find_none : (x : Name) {ps : List Port} → ps ≡ [] → find {A = Ty} x ps ≡ none
unfolding find
find_none x e = rw e

-- ---- lists of known length

list_of_one : {x : Port} {xs ys : List Port} → xs ≡ x ∷ ys → ys ≡ [] → xs ≡ x ∷ []
list_of_one e h = rw h at e

list_of_two : {x y : Port} {xs ys zs : List Port} → xs ≡ x ∷ ys → ys ≡ y ∷ zs → zs ≡ [] → xs ≡ x ∷ y ∷ []
list_of_two e f h = rw (list_of_one f h) at e

module _ {ks ws : List ℕ} {at : ℕ} (g : PortsHere ks ws at) where
  pub outputs_none : get_or ws at 0 ≡ 0 → outputs_type g.ps ≡ unit_type
  unfolding outputs_type
  outputs_none e = rw (no_items g.ps (sym g.listed.stand.many ∙ e))

  pub outputs_more : (get_or ws at 0 ≡ 0 → ⊥) → (get_or ws at 0 ≡ 1 → ⊥) → outputs_type g.ps ≡ Tuple (get_or ws at 0)
  unfolding outputs_type
  outputs_more a b = go g.ps g.listed.stand.many
    where
      go : (ps : List Port) → get_or ws at 0 ≡ length ps → outputs_type ps ≡ Tuple (get_or ws at 0)
      go [] h = absurd (a h)
      go (p ∷ []) h = absurd (b h)
      go (p ∷ r ∷ ps) h = ap Tuple (sym h)

  -- the only port
  pub record Only : Type 0 where
    pub p : Port
    pub are : g.ps ≡ p ∷ []
    pub typed : Typed (source ks ws g.text) p.1 (at + 2)

  pub only : get_or ws at 0 ≡ 1 → Only
  only e =
      let f = first_port (source ks ws g.text) g.ps (at + 1) 1 (sym g.listed.stand.many ∙ e) (λ z. omega arith) g.listed.stand.items g.listed.few in
      let z : at + 1 + 1 ≡ at + 2 = omega arith in
      record { p = f.p; are = list_of_one f.are (no_items f.others (omega (arith, f.fewer))); typed = rw z at f.typed }

  pub outputs_one : (o : Only) → outputs_type g.ps ≡ o.p.1
  unfolding outputs_type
  outputs_one o = rw o.are

  -- the only two ports
  pub record Pair : Type 0 where
    pub p : Port
    pub r : Port
    pub are : g.ps ≡ p ∷ r ∷ []
    pub typed : Typed (source ks ws g.text) p.1 (at + 2)
    pub head : RecAt (source ks ws g.text) (at + 2 + levels p.1) 7
    pub later : Typed (source ks ws g.text) r.1 (at + 2 + levels p.1 + 1)

  two_ports : (f : FirstPort (source ks ws g.text) g.ps (at + 1) 2) → FirstPort (source ks ws g.text) f.others (at + 2 + levels f.p.1) 1 → Pair
  two_ports f h =
      let z : at + 1 + 1 ≡ at + 2 = omega arith in
      record {
        p = f.p;
        r = h.p;
        are = list_of_two f.are h.are (no_items h.others (omega (arith, h.fewer)));
        typed = rw z at f.typed;
        head = h.head;
        later = h.typed;
      }

  pub pair : get_or ws at 0 ≡ 2 → Pair
  pair e =
      let f = first_port (source ks ws g.text) g.ps (at + 1) 2 (sym g.listed.stand.many ∙ e) (λ z. omega arith) g.listed.stand.items g.listed.few in
      let z : at + 1 + 1 ≡ at + 2 = omega arith in
      two_ports f (first_port (source ks ws g.text) f.others (at + 2 + levels f.p.1) 1 (omega (arith, f.fewer)) (λ z. omega arith) (rw z at f.stand) f.few)

  pub pair_later : (d : Pair) {e : ℕ} → e ≡ at + 2 + levels d.p.1 → Typed (source ks ws g.text) d.r.1 (e + 1)
  pair_later d q = rw q d.later

-- a heading's outputs stand behind its inputs
pub outputs_listed : {S : Source} {at : ℕ} {h : Heading} → HeadingAt S at h → Listed S h.outputs (at + 1 + 1 + sizes_of port_size h.inputs)
outputs_listed {at = at} {h = h} w =
    let q : at + 1 + (1 + sizes_of port_size h.inputs) ≡ at + 1 + 1 + sizes_of port_size h.inputs = omega arith in
    rw q at w.outputs

-- its inputs and outputs as lists of ports
module _ {ks ws : List ℕ} {ρ : Naming} {at : ℕ} {h : Heading} (w : HeadingAt (source ks ws ρ) at h) where
  abbrev pub inputs_here : PortsHere ks ws (at + 1)
  inputs_here = record { text = ρ; ps = h.inputs; listed = w.inputs }

  abbrev pub outputs_here : {e : ℕ} → e ≡ at + 1 + ports_size h.inputs → PortsHere ks ws e
  outputs_here q = record { text = ρ; ps = h.outputs; listed = rw q w.outputs }

-- ---- kinds of nodes

-- notes that a test asks for, and notes that it does not
pub noted_when : {num : Name → ℕ} {q : Spot} (b : Bool) {ns : List Note} {l l' : Lines} → b ≡ true → Noted num q ns l l' → Noted num q (if b then ns else []) l l'
noted_when b h d = rw h d

pub noted_unless : {num : Name → ℕ} {q : Spot} (b : Bool) (ns : List Note) {l : Lines} → b ≡ false → Noted num q (if b then ns else []) l l
noted_unless b ns h = rw h noted_none

pub operator_is : {n : ℕ} (k : NodeKind) → node_kind k ≡ n → n ≡ 11 → is_operator k ≡ true
unfolding is_operator
operator_is Function e h = absurd (omega arith)
operator_is Operator e h = refl
operator_is Imported e h = absurd (omega arith)

pub operator_not : {n : ℕ} (k : NodeKind) → node_kind k ≡ n → (n ≡ 11 → ⊥) → is_operator k ≡ false
unfolding is_operator
operator_not Function e h = refl
operator_not Operator e h = absurd (h (sym e))
operator_not Imported e h = refl
