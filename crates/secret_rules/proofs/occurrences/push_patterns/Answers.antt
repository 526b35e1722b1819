use Rattle.std.proofs.Common.{◌∙◌, ap}
use Rattle.aho_core.specs.Overlapping.{all_occurrences}
use Rattle.aho_core.specs.Search.{Search}
use Rattle.aho_cover.proofs.Written.{if_ok}
use Rattle.secret_rules.proofs.Picked.{counts-standing}
use Rattle.secret_rules.proofs.occurrences.push_patterns.Goals as goal

pub returns : goal.returns
returns g c = record {
  stand = λ p of.
      if_ok c.push_counted.result _ _
      (λ ran. counts-standing c.args.words p c.args.line.now ran.0.items c.push_counted.new.found.items
      (c.in-Ok.ensures.lists p of ran.0 ran.0.seen ran.1 ran.2 ∙ ap (λ (s : Search). all_occurrences p s.haystack s.start s.end) c.new.ensures.whole) ran.3)
      c.push_counted.ensures.picks;
}
