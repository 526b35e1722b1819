use Rattle.std.proofs.Common.{◌-◌, ◌<◌, length, sym, subst, rules, ◌∙◌}
use Rattle.std.proofs.lemmas.Bool.{eqb-true}
use Rattle.aho_core.specs.Listing.{IsMember}
use Rattle.secret_rules.proofs.Owners.{member-get_or}
use Rattle.secret_rules.proofs.occurrences.ends_with_last.Goals as goal

pub returns : goal.returns
returns c = record {
  there = λ ends.
      let last = c.index-found-found.result in
      let some : length c.args.found.now - 1 < length c.args.found.now = search rules in (
        last,
        subst (IsMember c.args.found.now) (sym c.index-found-found.is) (member-get_or c.args.found.now (length c.args.found.now - 1) last some),
        sym c.end.ensures.end ∙ eqb-true c.end.result c.end-2.result ends ∙ c.end-2.ensures.end,
      );
}
