-- What is found in a list of ports, and what a call asks of its callee before its arguments, lib.rs 948 to 979.
-- Assumes nothing: these are definitions.
use Rattle.std.specs.Prelude as code
use Rattle.std.specs.Prelude.{ℕ, ◌+◌, ◌≡◌, ◌&&◌, List, [], ◌∷◌, length, if◌then◌else◌, MatchOption}
use Rattle.std.proofs.Math.Option.{Option, none, some}
use Rattle.lustre.specs.Name.{Name, find}
use Rattle.lustre.specs.Types.{Ty}
use Rattle.lustre.specs.Project.{Port, Heading, is_operator}
use Rattle.lustre.specs.Line.{named}
use Rattle.lustre.specs.Infer.{Typing, call_rule}
use Rattle.input.specs.Depths.{ShallowPorts}
use Rattle.standing.specs.Standing.{Source, source, EachAt, PortAt, port_size, sizes_of}
use Rattle.lines.specs.Lines.{Noted, Said}
use Rattle.lines.specs.declared.Lines.{Lines}
use Rattle.lines.specs.declared.Spot.{Spot}
use Rattle.rules.specs.World.{World, Typed, Listed}

-- the first port x of ps is the record r, or there is none
abbrev pub PortFound : (S : Source) (ps : List Port) (x : Name) (r : code.Option ℕ) → Type 0
PortFound S ps x r = MatchOption r (find x ps ≡ none) (λ p. (t : Ty) × (find x ps ≡ some t) × Typed S t (p + 1))

-- a node that the call at a step with so many arguments may have as callee, whose first port is the record p; E0101 is noted if due
pub record Callable {ks ws sc : List ℕ} (W : World ks ws sc) (at name count : ℕ) (q : Spot) (l : Lines) (p : ℕ) (l' : Lines) : Type 0 where
  pub sig : Heading
  pub node : W.Γ.node (W.text name) ≡ some sig
  pub noted : Noted W.number q (if q.function && is_operator sig.kind then named at 101 (W.text name) ∷ [] else []) l l'
  pub many : length sig.inputs ≡ count
  pub ports : EachAt (PortAt (source ks ws W.text)) port_size sig.inputs p
  pub few : ShallowPorts sig.inputs
  pub outputs : Listed (source ks ws W.text) sig.outputs (p + sizes_of port_size sig.inputs)

-- what `called` answers: if there is no port, what the whole call says has been said
abbrev pub Called : {ks ws sc : List ℕ} (W : World ks ws sc) (at name count : ℕ) (q : Spot) (l : Lines) (r : code.Option ℕ) (l' : Lines) → Type 0
Called W at name count q l r l' =
    MatchOption r
    ((args : List Typing) (hint : Option Ty) → length args ≡ count → Said W.number q (call_rule W.Γ q.function at (W.text name) args hint) none l l')
    (λ p. Callable W at name count q l p l')
