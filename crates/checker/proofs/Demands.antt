-- Demands 2 and 3 of the function `check_project`: a call of it is one of `project::check` with a buffer of as many lines, and both leave the
-- same lines.
-- Assumes nothing.
use Prim.Native.Nat.{ℕ, ◌*◌}
use native.Mathlib.Omega.{arith}
use mathlib.Core.Path.{◌≡◌, refl, sym, ap, subst, ◌∙◌}
use mathlib.Core.List.{List, map, Memᴰ}
use lib.ListN.{length, take, replicate, length-replicate}
use lib.Seq.{take-nil}
use Rattle.lustre.specs.Names.{names_of}
use Rattle.lustre.specs.Project.{Equation}
use Rattle.lustre.specs.Report.{report}
use Rattle.lustre.specs.Answer.{answer, writes, over, lines_after, work_after}
use Rattle.lustre.proofs.Blank.{blank_stored, without_text}
use Rattle.lustre.specs.declared.Line.{Line}
use Rattle.lustre.specs.declared.Answer.TheVariants.{Report}
use Rattle.demands.specs.Demand3 as Given
use Rattle.demands.specs.Demand3.{Said, said, about}
use Rattle.demands.proofs.Calls.{spoken}
use Rattle.demands.proofs.Demand3 as Proved
use Rattle.demands.proofs.OneEquation as Moves
use Rattle.lines.specs.Lines.{room}
use Rattle.project.specs.Call.{buffer_after}
use Rattle.project.specs.Demands as Words
use Rattle.project.specs.Demands.{loop_lines}
use Rattle.project.proofs.Demands as WordsProved
use Rattle.checker.specs.Demands.{Check, Reported, project, lines_of, Reports, Demand3, OneEquation, TreeMeant, SomeEquations, UnusedNames, NoRecords, NoStray, SearchedLines, Demand2Loops}

-- ---- the call as the definition has it

abbrev call : Check → Given.Call
call c = record { kinds = c.kinds; words = c.words; text = c.text; work = c.work; lines = c.lines }

abbrev given : (c : Check) → Reported c → Given.Reported (call c)
given c r = record { count = r.count; edges = r.edges; is = sym c.checked.answered ∙ r.is }

-- the lines are those of the definition's call
same_lines : (c : Check) (r : Reported c) → lines_of c r ≡ Given.lines_of (call c) (given c r)
unfolding lines_of Given.lines_of
same_lines c r = ap (λ (ls : List Line). map (said (names_of c.text)) (take r.count ls)) c.checked.lines

-- they are the lines of the report, with names as texts
lines_spoken : (c : Check) (r : Reported c) → lines_of c r ≡ map spoken (report (project c))
lines_spoken c r = same_lines c r ∙ Proved.lines_spoken (call c) (given c r)

-- demand 3, by that of the definition
pub demand_3 : Demand3
demand_3 c d r s e = rw (same_lines c r, same_lines d s) (Proved.demand_3 (call c) (call d) (given c r) (given d s) e)

-- what one equation can move, that a tree is meant, and what some equations of a node can move, by the same
pub one_equation : OneEquation
one_equation c d r s i j e = rw (same_lines c r, same_lines d s) (Moves.one_equation (call c) (call d) (given c r) (given d s) i j e)

pub tree_meant : TreeMeant
tree_meant c d r s i j = Moves.tree_meant (call c) (call d) (given c r) (given d s) i j

pub some_equations : SomeEquations
some_equations c d r s i js e part = rw (same_lines c r, same_lines d s) (Moves.some_equations (call c) (call d) (given c r) (given d s) i js e part)

-- every number of a name is a name's, by the same
pub no_stray : NoStray
no_stray c r l m w e = Proved.no_stray (call c) (given c r) l (subst (λ (ls : List Said). Memᴰ l ls) (same_lines c r) m) w e

-- ---- the call on a buffer of words with as many lines

abbrev buffer : Check → List ℕ
buffer c = replicate (length c.lines * 6) 0

-- it has room for as many lines
room_is : (c : Check) → room (buffer c) ≡ length c.lines
room_is c = omega (arith, length-replicate {A = ℕ} (length c.lines * 6) 0)

abbrev on_words : Check → Words.Check
on_words c = record {
  kinds = c.kinds;
  words = c.words;
  text = c.text;
  work = c.work;
  lines = buffer c;
  answer = c.answer;
  work_after = c.work_after;
  lines_after = buffer_after c.kinds c.words c.text (length c.work) (buffer c);
  called = record {
    answered = c.checked.answered ∙ ap (answer c.kinds c.words c.text (length c.work)) (sym (room_is c));
    lines = refl;
    worked = c.checked.worked ∙ ap (λ (n : ℕ). work_after c.kinds c.words c.text n c.work) (sym (room_is c));
  };
}

abbrev reported : (c : Check) → Reported c → Words.Reported (on_words c)
reported c r = record { count = r.count; edges = r.edges; is = r.is }

-- both leave the same lines
as_words : (c : Check) (r : Reported c) → lines_of c r ≡ Words.lines_of (on_words c) (reported c r)
as_words c r = lines_spoken c r ∙ sym (WordsProved.lines_spoken (on_words c) (reported c r))

-- every report is about a project
pub reports : Reports
reports c r = let h = WordsProved.report_of (on_words c) (reported c r) in record { blank = h.blank; written = h.written; node = h.node; edges = h.edges }

-- two editions that differ only in unused names
pub unused_names : UnusedNames
unused_names c d r s e =
    let h = WordsProved.unused_names (on_words c) (on_words d) (reported c r) (reported d s) e in
    (as_words c r ∙ h.0 ∙ sym (as_words d s), h.1)

-- a call without records
pub no_records : NoRecords
unfolding lines_after over writes
no_records c k v short enough =
    let h = WordsProved.no_records (on_words c) k v short enough in
    record {
      blank = λ t.
          let w = h.blank t in
          let is : answer c.kinds c.words c.text (length c.work) (length c.lines) ≡ Report 0 0 = sym c.checked.answered ∙ w.0 in
          let stored = blank_stored c.kinds c.words c.text (without_text c.kinds c.words c.text (length c.work) (length c.lines) k v short enough t) in
          (w.0, c.checked.lines ∙ rw (is, lines_after, stored, take-nil {A = Line} (length c.lines)), w.2);
      names = h.names;
      no_names = h.no_names;
    }

-- what holds of a searched node on words holds of it here
searched : (c : Check) (r : Reported c) (i : ℕ) (qs : List Equation) → Words.SearchedLines (on_words c) (reported c r) i qs → SearchedLines c r i qs
searched c r i qs o =
    let same = as_words c r in
    record {
      only_if = λ l m. o.only_if l (subst (λ (ls : List Said). Memᴰ l (about i ls)) same m);
      if_so = λ y. let f = o.if_so y in (f.0, subst (λ (ls : List Said). Memᴰ f.0 (about i ls)) (sym same) f.1, f.2);
      path = λ y. let f = o.path y in (f.0, f.1, ap (loop_lines i) same ∙ f.2, f.3);
    }

-- demand 2 on E0060
pub demand_2_loops : Demand2Loops
demand_2_loops c r i n e =
    let h = WordsProved.demand_2_loops (on_words c) (reported c r) i n e in (
      λ k. record { searched = searched c r i n.equations (h.0 k).searched; rust = λ a. ap (loop_lines i) (as_words c r) ∙ (h.0 k).rust a },
      λ k. searched c r i n.equations (h.1 k),
      λ k. ap (loop_lines i) (as_words c r) ∙ h.2 k,
    )
