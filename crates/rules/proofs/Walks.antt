-- The ports of a list, one by one. Assumes nothing.
use Rattle.std.specs.Prelude.{Option, Some, None, is_some}
use Prim.Native.Nat.{ℕ, ◌+◌, ◌-◌, ◌<◌}
use native.Mathlib.Omega.{arith}
use mathlib.Core.Path.{◌≡◌, refl, sym, ap, ◌∙◌}
use mathlib.Core.Bool.{true, false, true≢false}
use mathlib.Core.List.{List, [], ◌∷◌}
use lib.ListN.{length, get_or}
use Rattle.lustre.specs.Types.{levels}
use Rattle.lustre.specs.Project.{Port}
use Rattle.standing.specs.Standing.{Source, word, RecAt, NameAt, EachAt, sizes_of, port_size, ports_size}
use Rattle.lustre.specs.declared.NameId.{NameId}
use Rattle.lustre.specs.declared.Records.{Records}
use Rattle.rules.specs.World.{Typed, PortsOf, source_of}
use Rattle.rules.specs.Walk.{PortsLeft, FirstPort, Walking, Walked}
use Rattle.rules.proofs.Places.{type_in}
use Rattle.rules.specs.declared.walk.Ports.{Ports}

-- what stands where a walk has ports left
pub record Ahead (S : Source) (ps : List Port) (at left : ℕ) : Type 0 where
  pub p : Port
  pub head : RecAt S at 7
  pub name : NameAt S at p.0
  pub typed : Typed S p.1 (at + 1)
  pub step : (next : ℕ) → next ≡ at + 1 + levels p.1 → FirstPort S ps at next (left - 1)

pub ahead : {S : Source} (ps : List Port) {at left : ℕ} → (left ≡ 0 → ⊥) → PortsLeft S ps at left → Ahead S ps at left
unfolding EachAt
ahead [] h l = absurd (h (sym l.many))
ahead {S} (p ∷ ps) {at} h l =
    let t : Typed S p.1 (at + 1) = record { stands = l.stand.0.type; few = l.few.0 } in
    let q : at + (1 + levels p.1) ≡ at + 1 + levels p.1 = omega arith in
    record {
      p = p;
      head = l.stand.0.head;
      name = l.stand.0.name;
      typed = t;
      step = λ next e. record {
        p = p;
        others = ps;
        are = refl;
        name = l.stand.0.name;
        typed = t;
        behind = e;
        rest = record { stand = rw e (rw q at l.stand.1); few = l.few.1; many = omega (arith, l.many) };
      };
    }

-- the sizes of ports
pub sizes_more : (ps : List Port) (p : Port) (others : List Port) → ps ≡ p ∷ others → sizes_of port_size ps ≡ 1 + levels p.1 + sizes_of port_size others
unfolding sizes_of
sizes_more ps p others q = rw q

sizes_none : sizes_of port_size [] ≡ 0
unfolding sizes_of
sizes_none = refl

-- what is left of a walk over the list g of the records r
pub record Left (r : Records) {list : ℕ} (g : PortsOf r list) (w : Ports) : Type 0 where
  pub records : w.records ≡ r
  pub rest : List Port
  pub left : PortsLeft (source_of r g.text) rest w.at w.left
  pub ends : w.at + sizes_of port_size rest ≡ list + ports_size g.ps

-- at its start
abbrev pub left_start : (r : Records) {list : ℕ} (g : PortsOf r list) {w : Ports} → (w.records ≡ r) × (w.at ≡ list + 1) × (w.left ≡ get_or r.words.now list 0) → Left r g w
left_start r {list} g {w} e =
    let l : PortsLeft (source_of r g.text) g.ps (list + 1) (get_or r.words.now list 0) =
    record { stand = g.listed.stand.items; few = g.listed.few; many = sym g.listed.stand.many } in
    record { records = e.0; rest = g.ps; left = rw (e.1, e.2) l; ends = omega (arith, e.1) }

module _ {r : Records} {list : ℕ} {g : PortsOf r list} {w v : Ports} (l : Left r g w) where
  module _ {p : NameId × ℕ} (d : Walked w (Some p) v) where
    -- the first port that is left
    abbrev pub left_first : FirstPort (source_of r g.text) l.rest w.at v.at v.left
    left_first = rw l.records at (d.gave.2 g.text l.rest (rw l.records l.left))

    -- its place and its name
    pub left_place : p.1 ≡ w.at
    left_place = d.gave.0

    pub left_name : p.0.number ≡ word (source_of r g.text) w.at
    left_name = rw l.records at d.gave.1

    -- the others
    abbrev pub left_next : Left r g v
    left_next = record {
      records = d.records ∙ l.records;
      rest = left_first.others;
      left = left_first.rest;
      ends = omega (arith, l.ends, sizes_more l.rest left_first.p left_first.others left_first.are, left_first.behind);
    }

  module _ (d : Walked w None v) where
    pub left_none : l.rest ≡ []
    left_none = d.gave.2 g.text l.rest (rw l.records l.left)

    pub left_end : v.at ≡ list + ports_size g.ps
    left_end = d.gave.0 ∙ omega (arith, l.ends, ap (sizes_of port_size) left_none, sizes_none)

    -- nor is any later
    abbrev pub left_over : Left r g v
    left_over = record { records = d.records ∙ l.records; rest = l.rest; left = rw (d.gave.0, d.gave.1) l.left; ends = omega (arith, l.ends, d.gave.0) }

-- the next call gave a port, or none
module _ {r : Records} {list : ℕ} {g : PortsOf r list} {w v : Ports} (l : Left r g w) where
  pub left_on : (o : Option (NameId × ℕ)) → is_some o ≡ true → Walked w o v → Left r g v
  left_on None h d = absurd (true≢false (sym h))
  left_on (Some p) h d = left_next l d

  pub left_stop : (o : Option (NameId × ℕ)) → is_some o ≡ false → Walked w o v → v.at ≡ list + ports_size g.ps
  left_stop None h d = left_end l d
  left_stop (Some p) h d = absurd (true≢false h)

-- the name and the place that a walk gives are in bounds
pub walked_bounds : {w v : Ports} {p : NameId × ℕ} → Walking w → Walked w (Some p) v → (p.0.number < 512) × (p.1 < length w.records.kinds.now)
walked_bounds {w} {p = p} g d =
    let f = d.gave.2 g.text g.ps g.left in
    (p.0.below, omega (arith, type_in f.typed, d.gave.0))
