-- The ports of a list, one by one.
-- Assumes nothing: these are definitions.
use Rattle.std.specs.Prelude.{ℕ, ◌+◌, ◌≡◌, List, [], ◌∷◌, length, get_or, Option, None, Some}
use Rattle.lustre.specs.Types.{levels}
use Rattle.lustre.specs.Project.{Port}
use Rattle.input.specs.Depths.{ShallowPorts}
use Rattle.standing.specs.Standing.{Source, NameAt, EachAt, PortAt, port_size}
use Rattle.types.specs.Value.{Naming}
use Rattle.lustre.specs.declared.NameId.{NameId}
use Rattle.rules.specs.World.{Typed, source_of}
use Rattle.rules.specs.declared.walk.Ports.{Ports}

-- the ports ps, so many, stand at a place
pub record PortsLeft (S : Source) (ps : List Port) (at left : ℕ) : Type 0 where
  pub stand : EachAt (PortAt S) port_size ps at
  pub few : ShallowPorts ps
  pub many : length ps ≡ left

-- the first of the ports ps stands at a place, and the others behind it
pub record FirstPort (S : Source) (ps : List Port) (at next left : ℕ) : Type 0 where
  pub p : Port
  pub others : List Port
  pub are : ps ≡ p ∷ others
  pub name : NameAt S at p.0
  pub typed : Typed S p.1 (at + 1)
  pub behind : next ≡ at + 1 + levels p.1
  pub rest : PortsLeft S others next left

-- some ports are left of a walk
pub record Walking (w : Ports) : Type 0 where
  pub text : Naming
  pub ps : List Port
  pub left : PortsLeft (source_of w.records text) ps w.at w.left

-- a call of w gave the name and the place of the first port that was left, or none was, and left v
abbrev pub Gave : Ports → Option (NameId × ℕ) → Ports → Type 0
Gave w None v = (v.at ≡ w.at) × (v.left ≡ w.left) × ((ρ : Naming) (ps : List Port) → PortsLeft (source_of w.records ρ) ps w.at w.left → ps ≡ [])
Gave w (Some p) v =
    (p.1 ≡ w.at) × (p.0.number ≡ get_or w.records.words.now w.at 0)
    × ((ρ : Naming) (ps : List Port) → PortsLeft (source_of w.records ρ) ps w.at w.left → FirstPort (source_of w.records ρ) ps w.at v.at v.left)

pub record Walked (w : Ports) (r : Option (NameId × ℕ)) (v : Ports) : Type 0 where
  pub records : v.records ≡ w.records
  pub gave : Gave w r v
