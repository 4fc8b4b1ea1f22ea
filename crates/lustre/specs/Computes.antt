-- To unfold `computes` is to unfold every definition of the report and the answer, those that its own `unfolding` line names: tables of
-- closed cases are then proved by `refl`.
-- Assumes nothing.
use Rattle.lustre.specs.Name.{order, ◌is◌, mem, into-set, set-of, lookup, find}
use Rattle.lustre.specs.Names.{longer, split, above, is_name, bad-piece, bad-name, names_of, number_of}
use Rattle.lustre.specs.Records.{word-classes, class-in, word-class, in-class, is_known, bad-record, spell-as, spell}
use Rattle.lustre.specs.Types.{same-type, within, members, range-of, levels}
use Rattle.lustre.specs.Expr.{size, visit, literal-form, form, any-temporal, contains-temporal, op-class}
use Rattle.lustre.specs.Project.{heading, skeleton, all_types, all-constants, all-nodes, decl-name, is-function, is-operator, port-names}
use Rattle.lustre.specs.Grammar.{gather, exprs, inits, entries, entry, front, back, read, read-project, whole, count, countⁱ, flat-type, flat, each_of, flat-decl, flat-parts}
use Rattle.lustre.specs.Levels.{inner, inner_of, too-deep, deep-record}
use Rattle.lustre.specs.Line.{severity, return, fail, add, require, try, ◌>>=◌, ◌>>◌}
use Rattle.lustre.specs.Resolve.{aliases-of, records-of, variants-of, context, within-node, array_of, follow-alias, try-resolve, or-itself, resolve, compatible}
use Rattle.lustre.specs.Literal.{in-range, in-some-range, fits, int32-type, integer-type, float_type, literal-type}
use Rattle.lustre.specs.Init.{pres}
use Rattle.lustre.specs.Placement.{iterators, nested}
use Rattle.lustre.specs.Infer.{if-found, or_else, sub-hint, right-hint, meets, fault, gives, literal-rule, outputs-type, one-output, two-inputs, array-type, element-of, all-long, same-lengths, first-length, missing, unless-agrees, cast-of, cast-rule, var-rule, unary-of, unary-plain, unary-rule, operands, binary-rule, agree-rule, both, if-rule, argument, arguments, field_of, field-rule, index_of, index-rule, element-hint, item, items, empty-array, array-rule, resolved-name, struct-name, value, values, struct-of, struct-rule, clock-of, clock, when-rule, merge-rule, operand, arrays, inputs-agree, seed-agrees, seed-rule, element-rule, iterate-as, iterate-of, iterate-rule, call-of, call-rule, infer}
use Rattle.lustre.specs.Deps.{reads, defined, read-in, read_by, successors, initial-sides, rust-reads, rust-equation, rust-equations}
use Rattle.lustre.specs.Walk.{more, path-of, looks-of, after, first-path, from_first, closing, scan, starts, rust-scan, enter, walk, rust-dfs, rust-walk, graph-names, search, dfs-search, rust-search}
use Rattle.lustre.specs.Node.{repeated, absent, path-notes, loop-notes, assigns, wanted, bound-one, bound-plain, bound-each, outputs-in, called-outputs, bound-tuple, bound-as, bound, equation-notes, of-equation, of_node, equations-remarks, cycle-notes, looks, opening-notes, closing-notes, body-remarks, imported-remarks, remarks-as, node-remarks}
use Rattle.lustre.specs.Report.{line, tagged, variants-in, repeated-variants, type-lines, alias-numbers, alias-line, alias-lines, node-name-lines, value-notes, constant-notes, constant-lines, opening, of-place, node_lines, nodes-lines, report, looks-all, followed}
use Rattle.lustre.specs.Answer.{bad-sizes, short-work, spelled, is-blank, project-records, place_in, no-project, too-deep-at, project-in, project-of, refuse, record-refusal, lowest, unless-refused, reported, answer, writes, or-none, name-word, place-number, stored, stored-report, over, lines_after, work-after}

unfoldable pub computes : Unit {0}
unfolding order ◌is◌ mem into-set set-of lookup find longer split above is_name bad-piece bad-name names_of number_of word-classes class-in word-class in-class is_known bad-record spell-as spell same-type within members range-of levels size visit literal-form form any-temporal contains-temporal op-class heading skeleton all_types all-constants all-nodes decl-name is-function is-operator port-names gather exprs inits entries entry front back read read-project whole count countⁱ flat-type flat each_of flat-decl flat-parts inner inner_of too-deep deep-record severity return fail add require try ◌>>=◌ ◌>>◌ aliases-of records-of variants-of context within-node array_of follow-alias try-resolve or-itself resolve compatible in-range in-some-range fits int32-type integer-type float_type literal-type pres iterators nested if-found or_else sub-hint right-hint meets fault gives literal-rule outputs-type one-output two-inputs array-type element-of all-long same-lengths first-length missing unless-agrees cast-of cast-rule var-rule unary-of unary-plain unary-rule operands binary-rule agree-rule both if-rule argument arguments field_of field-rule index_of index-rule element-hint item items empty-array array-rule resolved-name struct-name value values struct-of struct-rule clock-of clock when-rule merge-rule operand arrays inputs-agree seed-agrees seed-rule element-rule iterate-as iterate-of iterate-rule call-of call-rule infer reads defined read-in read_by successors initial-sides rust-reads rust-equation rust-equations more path-of looks-of after first-path from_first closing scan starts rust-scan enter walk rust-dfs rust-walk graph-names search dfs-search rust-search repeated absent path-notes loop-notes assigns wanted bound-one bound-plain bound-each outputs-in called-outputs bound-tuple bound-as bound equation-notes of-equation of_node equations-remarks cycle-notes looks opening-notes closing-notes body-remarks imported-remarks remarks-as node-remarks line tagged variants-in repeated-variants type-lines alias-numbers alias-line alias-lines node-name-lines value-notes constant-notes constant-lines opening of-place node_lines nodes-lines report looks-all followed bad-sizes short-work spelled is-blank project-records place_in no-project too-deep-at project-in project-of refuse record-refusal lowest unless-refused reported answer writes or-none name-word place-number stored stored-report over lines_after work-after
computes = tt
