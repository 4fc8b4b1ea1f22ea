-- Accepted input is a model: its project stands in the records, and each of its names has a number. Assumes nothing.
use Prim.Native.Nat.{ℕ, suc, ◌+◌, ◌<◌, zero-le}
use native.Mathlib.Omega.{arith}
use mathlib.Core.Path.{◌≡◌, refl, ap, subst, ◌∙◌}
use mathlib.Core.Bool.{true}
use mathlib.Core.List.{List, [], ◌∷◌, ◌++◌}
use mathlib.Core.Option.{Option, none, some}
use lib.ListN.{length, get_or}
use borrow.Author.Tests.{ltb-true}
use Rattle.lustre.specs.Name.{Name, ◌is◌, ◌among◌}
use Rattle.lustre.specs.Names.{names_of}
use Rattle.lustre.specs.Records.{WordClass, no_word, a_name, a_count, a_length, a_truth, any_word, a_byte, word_class, in_class, spell, spell_as}
use Rattle.lustre.specs.Project.{Equation, Node, all_nodes}
use Rattle.lustre.specs.Grammar.{one, a_project, flat_part}
use Rattle.lustre.specs.Deps.{reads, defined, read_in}
use Rattle.lustre.specs.Walk.{graph_names}
use Rattle.lustre.specs.Answer.{project_of}
use Rattle.demands.specs.Reading.{Each}
use Rattle.demands.proofs.Sets.{mem_in}
use Rattle.demands.proofs.Orders.{is_test, set_in}
use Rattle.demands.proofs.Eaches.{each_append, each_member, each_weaken}
use Rattle.demands.proofs.Known.{KnownWord, KnownEquation, KnownNode, KnownProject, KnownRecords}
use Rattle.demands.proofs.RecordNames.{project_known}
use Rattle.demands.proofs.ReportNames.{known_reads, known_nodes}
use Rattle.records.proofs.Spells.{spell_past}
use Rattle.standing.specs.Standing.{source, ProjectAt, list_size, package_size}
use Rattle.standing.proofs.FromFlat.{tree_at}
use Rattle.input.specs.Accepted.{Accepted}
use Rattle.types.specs.Value.{Naming}
use Rattle.scope.specs.Model.{Numbered, Model}

-- x has a number below the number of names
abbrev pub HasNumber : Naming → ℕ → Name → Type 0
HasNumber text names x = (n : ℕ) × (n < names) × (text n ≡ x)

module _ (text : Naming) (names : ℕ) where
  -- a word in range that is spelled by a name is spelled by one with a number
  spelled_word : (o : Option WordClass) (kind w : ℕ) → word_class kind ≡ o → in_class names o w ≡ true
      → KnownWord (HasNumber text names) (word_class (spell_as o kind w (text w)).kind) (spell_as o kind w (text w)).text
  unfolding spell_as in_class
  spelled_word none kind w e h = rw e tt
  spelled_word (some no_word) kind w e h = rw e tt
  spelled_word (some a_name) kind w e h = rw e (w, ltb-true w names h, refl)
  spelled_word (some a_count) kind w e h = rw e tt
  spelled_word (some a_length) kind w e h = rw e tt
  spelled_word (some a_truth) kind w e h = rw e tt
  spelled_word (some any_word) kind w e h = rw e tt
  spelled_word (some a_byte) kind w e h = rw e tt

  -- the names of records whose words are in range have numbers
  spelled_known : (ks ws : List ℕ) → ((at : ℕ) → at < length ks → in_class names (word_class (get_or ks at 0)) (get_or ws at 0) ≡ true) → length ks ≡ length ws
      → KnownRecords (HasNumber text names) (spell text ks ws)
  unfolding spell
  spelled_known [] ws h e = tt
  spelled_known (k ∷ ks) [] h e = tt
  spelled_known (k ∷ ks) (w ∷ ws) h e =
      (spelled_word (word_class k) k w refl (h 0 (omega arith)), spelled_known ks ws (λ at l. h (suc at) (omega arith)) (omega arith))

-- each name that equations define or read is one of theirs
module _ (K : Name → Type 0) where
  known_defined : (qs : List Equation) → Each (KnownEquation K) qs → Each K (defined qs)
  unfolding defined
  known_defined [] h = tt
  known_defined (q ∷ qs) h = each_append K q.lhs _ h.0.lhs (known_defined qs h.1)

  known_read : (qs : List Equation) → Each (KnownEquation K) qs → Each K (read_in qs)
  unfolding read_in
  known_read [] h = tt
  known_read (q ∷ qs) h = each_append K (reads q.rhs) _ (known_reads K q.rhs h.0.rhs) (known_read qs h.1)

  known_graph : (qs : List Equation) → Each (KnownEquation K) qs → (x : Name) → (x among graph_names qs) ≡ true → K x
  unfolding graph_names
  known_graph qs h x e =
      each_member K (defined qs ++ read_in qs) x (set_in x (defined qs ++ read_in qs) (mem_in ◌is◌ is_test x _ e))
      (each_append K (defined qs) _ (known_defined qs h) (known_read qs h))

module _ {ks ws text : List ℕ} (a : Accepted ks ws text) where
  -- the project stands in the records, up to the last
  pub stands : ProjectAt (source ks ws a.numbering.text) (project_of ks ws text) 0 × (length ks ≡ 0 + list_size package_size (project_of ks ws text))
  stands =
      tree_at a.numbering.text ks ws (length (names_of text)) a.names.few a.ranged a.same (one a_project) (project_of ks ws text) 0 (length ks) a.stands.writable zero-le (omega arith) a.stands.flat

  -- every name of the project has a number
  pub known : KnownProject (HasNumber a.numbering.text (length (names_of text))) (project_of ks ws text)
  known =
      project_known (HasNumber a.numbering.text (length (names_of text))) (project_of ks ws text)
      (subst (KnownRecords (HasNumber a.numbering.text (length (names_of text))))
      (a.stands.flat ∙ ap (flat_part (one a_project) (project_of ks ws text)) (spell_past a.numbering.text ks ws (length ks) (omega arith)))
      (spelled_known a.numbering.text (length (names_of text)) ks ws a.ranged a.same))

  pub numbered : Each (λ (n : Node). Numbered a.numbering.text (length (names_of text)) n.equations) (all_nodes (project_of ks ws text))
  numbered =
      let K = HasNumber a.numbering.text (length (names_of text)) in
      each_weaken (KnownNode K) (λ (n : Node). Numbered a.numbering.text (length (names_of text)) n.equations) (λ n h. known_graph K n.equations h.equations) (all_nodes (project_of ks ws text)) (known_nodes K (project_of ks ws text) known)

  abbrev pub model : Model ks ws
  model = record {
    text = a.numbering.text;
    number = a.numbering.number;
    back = a.numbering.back;
    names = length (names_of text);
    some_names = a.names.few;
    increasing = a.numbering.increasing;
    even = a.same;
    few = a.few;
    P = project_of ks ws text;
    stands = stands.0;
    whole = omega (arith, stands.1);
    shallow = a.shallow;
    numbered = numbered;
  }
