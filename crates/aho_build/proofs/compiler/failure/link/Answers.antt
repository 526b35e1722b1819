use Rattle.std.proofs.Common.{◌+◌, ◌∙◌, ap, length}
use Rattle.std.proofs.lemmas.Result.{on_ok_weaker, IfErr-weaker}
use Rattle.aho_build.specs.FailureLinks.{append_matches, rows_of}
use Rattle.aho_table.specs.Refusal.{IsRefusalOf}
use Rattle.aho_table.specs.Table.{Tables, matches_in, matches_count}
use Rattle.aho_build.proofs.MatchTotals.{linked_refused}
use Rattle.aho_build.proofs.CopiedMatches.{linked_state-both}
use Rattle.aho_build.proofs.compiler.failure.link.Goals as goal

pub returns : goal.returns
returns c = record {
  linked = on_ok_weaker c.copy_matches.result
      (λ is. linked_state-both c.args.table.now.states c.copy_matches.new.table.states c.args.sid c.args.fail c.requires.sid c.requires.apart
      (is ∙ ap (λ (t : Tables). append_matches t.states c.args.sid c.args.fail) c.set_fail.ensures.set))
      c.copy_matches.ensures.copied;
  limit = on_ok_weaker c.copy_matches.result (λ is. is ∙ ap (λ (t : Tables). t.limit) c.set_fail.ensures.set) c.copy_matches.ensures.limit;
  rows = on_ok_weaker c.copy_matches.result (λ is. is ∙ ap rows_of c.set_fail.ensures.set) c.copy_matches.ensures.rows;
  refused = IfErr-weaker c.copy_matches.result (IsRefusalOf c.set_fail.new.self.limit (matches_count c.set_fail.new.self.states + length (matches_in c.set_fail.new.self.states c.args.fail)))
      (IsRefusalOf c.args.table.now.limit (matches_count c.args.table.now.states + length (matches_in c.args.table.now.states c.args.fail)))
      (λ error. linked_refused c.args.table.now c.set_fail.new.self c.args.sid c.args.fail error c.requires.sid c.set_fail.ensures.set)
      c.copy_matches.ensures.refused;
}
