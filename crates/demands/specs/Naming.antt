-- What accepted text gives: name numbers go by the byte order of their texts, and a name's number leads back to it.
-- Assumes nothing: these are statements, proved in proofs/.
use Prim.Native.Nat.{Ordering}
use Rattle.std.specs.Prelude.{ℕ, ◌≤◌, ◌<◌, ◌≡◌, true, List, length}
use Rattle.std.proofs.Math.Option.{none}
use Rattle.lustre.specs.Name.{Name, order, ◌among◌}
use Rattle.lustre.specs.Names.{bad_name, names_of, name_at, number_of}

pub record Named (names : List Name) : Type 0 where
  pub few : length names ≤ 512
  pub increasing : (i j : ℕ) → i < j → j < length names → order (name_at names i) (name_at names j) ≡ Ordering.lt
  pub injective : (i j : ℕ) → i < length names → j < length names → name_at names i ≡ name_at names j → i ≡ j
  pub back : (i : ℕ) → i < length names → number_of names (name_at names i) ≡ i
  pub forth : (x : Name) → (x among names) ≡ true → (number_of names x < length names) × (name_at names (number_of names x) ≡ x)

abbrev pub AcceptedNames : Type 0
AcceptedNames = (text : List ℕ) → bad_name text ≡ none → Named (names_of text)
