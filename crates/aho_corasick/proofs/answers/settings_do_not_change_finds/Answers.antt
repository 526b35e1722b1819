use Rattle.std.proofs.Common.{◌≡◌, rules, subst}
use Rattle.std.specs.Prelude.{None}
use Rattle.aho_core.specs.Iteration.{AreFinds}
use Rattle.aho_core.specs.Search.{Search}
use Rattle.aho_laws.proofs.Iterations.{finds-unique}
use Rattle.aho_corasick.proofs.answers.settings_do_not_change_finds.Goals as goal

pub returns : goal.returns
returns c = record {
  alike =
      let of = c.requires.of in
      let one : c.in_ok-clone.field-0 ≡ c.args.input.now = search rules in
      let other : c.in_ok-clone-2.field-0 ≡ c.args.input.now = search rules in
      finds-unique of.0 c.in_ok-one.one.items c.in_ok-other.other.items c.args.input.now None
      (subst (λ (s : Search). AreFinds of.0 s None c.in_ok-one.one.items) one (c.in_ok-one.ensures.finds of.0 of.1))
      (subst (λ (s : Search). AreFinds of.0 s None c.in_ok-other.other.items) other (c.in_ok-other.ensures.finds of.0 of.2));
}
