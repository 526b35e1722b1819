use Rattle.std.proofs.Common.{◌≤◌, ◌≡◌, ℕ, arith}
use Rattle.aho_core.specs.Overlapping.{occurrences_at}
use Rattle.aho_laws.proofs.Ranges.{places_step, places_end}
use Rattle.bench.proofs.listing.push_ending.Goals as goal

pub loop-start-preserved : goal.loop-start-preserved
loop-start-preserved c =
    let at_or_after : c.args.at.start ≤ c.loop-start.start = omega arith in
    places_step (λ (start : ℕ). occurrences_at c.args.patterns.now c.args.haystack.now start c.args.at.end)
    c.args.at.start c.loop-start.start c.args.found.now.items c.loop-start.found.items c.push_at.new.found.items
    at_or_after c.loop-start.invariant c.in_ok-push_at.ensures.pushed

pub returns-in_ok-push_at : goal.returns-in_ok-push_at
returns-in_ok-push_at c =
    let at_or_after : c.args.at.start ≤ c.loop-start.start = omega arith in
    let at_end : c.loop-start.start ≡ c.args.at.end = omega arith in
    record {
      pushed =
          places_end (λ (start : ℕ). occurrences_at c.args.patterns.now c.args.haystack.now start c.args.at.end)
          c.args.at.start c.loop-start.start c.args.at.end c.args.found.now.items c.loop-start.found.items c.push_at.new.found.items
          at_or_after at_end c.loop-start.invariant c.in_ok-push_at.ensures.pushed;
    }
