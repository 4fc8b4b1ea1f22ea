-- What acceptance gives: the facts of accepted input that later contracts use, and the theorem's statement that accepted input has them.
-- Assumes nothing: these are definitions and a statement, proved in proofs/.
use Prim.Native.Nat.{Ordering}
use Rattle.std.specs.Prelude.{ℕ, ◌≤◌, ◌<◌, ◌≡◌, true, List, length, get_or, Some, Ok}
use Rattle.lustre.specs.Name.{Name, order}
use Rattle.lustre.specs.Names.{names_of, name_at}
use Rattle.lustre.specs.Records.{word_class, in_class}
use Rattle.lustre.specs.Grammar.{one, a_project}
use Rattle.lustre.specs.Answer.{project_of}
use Rattle.demands.specs.Naming.{Named}
use Rattle.records.specs.Stands.{Stands}
use Rattle.input.specs.Input.{judged}
use Rattle.input.specs.Depths.{ShallowProject}

-- A numbering of names: a text for every number, each number told by its text, in byte order below the count. Numbers past the last
-- name have texts that are no names.
pub record Numbering (names : List Name) : Type 0 where
  pub text : ℕ → Name
  pub number : Name → ℕ
  pub back : (n : ℕ) → number (text n) ≡ n
  pub is : (n : ℕ) → n < length names → text n ≡ name_at names n
  pub increasing : (i j : ℕ) → i < j → j < length names → order (text i) (text j) ≡ Ordering.lt

-- What is known of accepted kinds, words and text: their sizes, their names with a numbering, each word in its kind's range, and the
-- project that the records are, with its levels in bounds.
pub record Accepted (ks ws text : List ℕ) : Type 0 where
  pub same : length ks ≡ length ws
  pub few : length ks ≤ 4096
  pub names : Named (names_of text)
  pub numbering : Numbering (names_of text)
  pub ranged : (at : ℕ) → at < length ks → in_class (length (names_of text)) (word_class (get_or ks at 0)) (get_or ws at 0) ≡ true
  pub stands : Stands numbering.text ks ws (one a_project) (project_of ks ws text) 0 (length ks)
  pub shallow : ShallowProject (project_of ks ws text)

-- accepted input has all of this
abbrev pub Accepts : Type 0
Accepts = (ks ws text : List ℕ) (work n : ℕ) → judged ks ws text work ≡ Ok (Some n) → Accepted ks ws text
