-- What a call that gets a report says: no refusal applies, and its lines are the report's, with names as texts.
-- Assumes nothing.
use Rattle.std.specs.Prelude.{if◌then◌else◌}
use Prim.Native.Nat.{ℕ, ◌≤◌, ◌<◌, min}
use native.Mathlib.Omega.{arith}
use mathlib.Core.Path.{◌≡◌, refl, sym, ap, ◌∙◌}
use mathlib.Core.Bool.{Bool, true, false}
use mathlib.Core.List.{List, [], ◌∷◌, map, map-map}
use mathlib.Core.Option.{Option, none, some}
use lib.Dec.{leb}
use lib.ListN.{length, take, drop, length-map}
use lib.Seq.{take_all, take_at}
use borrow.Author.Tests.{leb-true, lt-ltb, ne_eqb}
use Rattle.lustre.specs.Name.{Name, ◌among◌}
use Rattle.lustre.specs.Names.{bad_name, names_of, number_of}
use Rattle.lustre.specs.Records.{bad_record}
use Rattle.lustre.specs.Project.{Project}
use Rattle.lustre.specs.Line.{Line}
use Rattle.lustre.specs.Report.{report, followed}
use Rattle.lustre.specs.Answer.{answer, lowest, reported, refusal_of, first_of, no_project, writes, over, lines_after, stored, stored_report, no_value, or_none, name_word, place_number}
use Rattle.lustre.specs.declared.Line as Stored
use Rattle.lustre.specs.declared.Answer.TheVariants.{Report, MoreLines}
use Rattle.lustre.proofs.Lowest.{reports, passes}
use Rattle.demands.specs.Reading.{Each}
use Rattle.demands.specs.Naming.{Named}
use Rattle.demands.specs.Demand3.{Call, Reported, project_records, project, Mention, no_name, the_name, mention, Said, said, lines_of}
use Rattle.demands.proofs.Known.{KnownName}

-- a report's lines fit the room
fitted : (room : ℕ) (P : Project) (n e : ℕ) → reported room P ≡ Report n e → (length (report P) ≤ room) × (length (report P) ≡ n)
unfolding reported
fitted room P n e = go (leb (length (report P)) room) refl
  where
    go : (t : Bool) → leb (length (report P)) room ≡ t → (if t then Report (length (report P)) (followed P) else MoreLines (min (length (report P)) 18_446_744_073_709_551_615)) ≡ Report n e
        → (length (report P) ≤ room) × (length (report P) ≡ n)
    go true t q = (leb-true (length (report P)) room t, ap first_of q)
    go false t q = absurd (omega (arith, ap refusal_of q))

-- what a call that gets a report has passed
pub record Passed (c : Call) (count : ℕ) : Type 0 where
  pub named : bad_name c.text ≡ none
  pub ranged : bad_record (length (names_of c.text)) 0 c.kinds c.words ≡ none
  pub tree : no_project (project_records c) ≡ none
  pub fits : length (report (project c)) ≤ length c.lines
  pub counted : length (report (project c)) ≡ count

pub passed : (c : Call) (r : Reported c) → Passed c r.count
unfolding answer
passed c r =
    let o = reports (lowest c.kinds c.words c.text (length c.work)) (reported (length c.lines) (project c)) (ap refusal_of r.is) in
    let h = passes c.kinds c.words c.text (length c.work) o.0 in
    let f = fitted (length c.lines) (project c) r.count r.edges (sym o.1 ∙ r.is) in
    record { named = h.named; ranged = h.ranged; tree = h.project; fits = f.0; counted = f.1 }

-- lines that fit are found at the front
at_front : (lines lent : List Stored.Line) (n : ℕ) → length lines ≡ n → length lines ≤ length lent → take n (over lines lent) ≡ lines
unfolding over
at_front lines lent n e h = rw (take_all (length lent) lines h) (take_at lines (drop (length lines) lent) n e)

-- a report is written over the lent lines
written : (c : Call) (r : Reported c) → lines_after c.kinds c.words c.text (length c.work) c.lines ≡ over (stored_report c.kinds c.words c.text) c.lines
unfolding lines_after writes
written c r = rw (r.is, lines_after)

-- the lines below the count are the report's, as stored
pub reported_lines : (c : Call) (r : Reported c) → lines_of c r ≡ map (λ l. said (names_of c.text) (stored (names_of c.text) l)) (report (project c))
unfolding lines_of stored_report
reported_lines c r =
    let h = passed c r in
    let names = names_of c.text in
    let same : length (map (stored names) (report (project c))) ≡ length (report (project c)) = length-map (report (project c)) (stored names) in
    rw (written c r, at_front (map (stored names) (report (project c))) c.lines r.count (omega arith) (omega arith)) (map-map (said names) (stored names) (report (project c)))

-- a line with its names as texts, whatever the names' numbers
unfoldable pub spoken_name : Option Name → Mention
spoken_name none = no_name
spoken_name (some x) = the_name x

unfoldable pub spoken : Line → Said
spoken l = record {
  code = l.remark.note.code;
  place = place_number l.place;
  number = l.number;
  equation = or_none l.remark.equation;
  step = or_none l.remark.note.step;
  name = spoken_name l.remark.note.name;
}

module _ (names : List Name) (h : Named names) where
  abbrev KnownLine : Line → Type 0
  KnownLine l = KnownName (λ x. (x among names) ≡ true) l.remark.note.name

  -- a name's number is the name again: it is below 512, so never the value for none
  mentioned : (o : Option Name) → KnownName (λ x. (x among names) ≡ true) o → mention names (name_word names o) ≡ spoken_name o
  unfolding mention name_word spoken_name
  mentioned none k = refl
  mentioned (some x) k =
      let f = h.forth x k in
      let low : number_of names x < length names = f.0 in
      let small = h.few in
      rw (ne_eqb (number_of names x) no_value (λ e. omega arith), mention, lt-ltb (number_of names x) (length names) low, mention, f.1)

  pub said_lines : (ls : List Line) → Each KnownLine ls → map (λ l. said names (stored names l)) ls ≡ map spoken ls
  unfolding said stored spoken
  said_lines [] k = refl
  said_lines (l ∷ ls) k = rw (mentioned l.remark.note.name k.0, said_lines ls k.1)
