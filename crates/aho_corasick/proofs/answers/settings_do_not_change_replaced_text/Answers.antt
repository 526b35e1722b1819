use Rattle.std.proofs.Common.{◌∙◌, arith, sym}
use Rattle.std.specs.Prelude.{None}
use Rattle.aho_core.specs.Search.{plain_search}
use Rattle.aho_laws.proofs.Iterations.{finds-exist}
use Rattle.aho_corasick.proofs.answers.settings_do_not_change_replaced_text.Goals as goal

pub returns : goal.returns
returns c = record {
  alike =
      let of = c.requires.of in
      let finds = finds-exist of.0 (plain_search c.args.haystack.now) None (omega arith) in
      c.in_ok-one.ensures.replaced of.0 finds.0 of.1 finds.1 ∙ sym (c.in_ok-other.ensures.replaced of.0 finds.0 of.2 finds.1);
}
