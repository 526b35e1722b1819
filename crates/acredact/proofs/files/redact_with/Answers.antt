-- What is known of the metered source is known of the source.
use Rattle.acredact.proofs.Common.{Consumes, List, arith, at_end, bytes_left, is_some, le_refl, length, min, sym, true, ℕ, ◌+◌, ◌-◌, ◌^◌, ◌≡◌, ◌≢◌}
use Rattle.acredact.proofs.Totals.{metered_read, numbers_of}
use Rattle.acredact.proofs.OneFile.{comes_by, known_read, reading_fails, reading_whole, whole_text}
use Rattle.acredact.proofs.files.redact_with.Goals as goal

pub invariant_of-meter : goal.invariant_of-meter
invariant_of-meter g c =
    record { same = sym c.requires.name; metered = rw c.requires.whole (λ known. (known, le_refl _, omega (arith, c.requires.start, c.args.lent.fits))) }

pub returns-clause-outcome : goal.returns-clause-outcome
returns-clause-outcome g c = λ plan by.
    let run = c.redact in
    let meter = run.new.source in
    let does = run.ensures.done plan by in
    let left = bytes_left c.args.lent.source.now in
    let left' = bytes_left meter.lent.source.now in
    let ends = λ (some : meter.lent.source.now.empty_reads ≢ 0). at_end _ (λ bytes known. meter.lent.source.now.ended bytes some known) in
    rw c.reading_of-done.ensures.reading
    (record {
      is = λ known kept.
          let reads : (text : List ℕ) → Consumes left left' text → Consumes known left' text = λ text. known_read known left left' text kept in
          let adds : (text : List ℕ) → Consumes known left' text → is_some known ≡ true → meter.lent.bytes ≡ min (c.args.lent.bytes + length text) (2 ^ 64 - 1) =
          λ text read told. rw (← c.requires.start) (metered_read known left left' g.K.Known.whole g.K.Known.start meter.lent.bytes text kept c.requires.whole read meter.metered told) in
          record {
            comes = comes_by _ _ meter known left' reads c.requires.unread ends _ (g.X.Way.means plan) c.args.output.now run.new.sink run.result does.outcome;
            fails = reading_fails run.result c.args.output.now run.new.sink does.outcome.errors.write_failed does.outcome.errors.took_nothing does.outcome.only;
            ranges = λ whole. let (ranges, has, counted) = reading_whole run.result whole does.counted in (ranges, whole_text _ _ meter known left' reads c.requires.unread ends has, counted);
            read = λ whole.
                let text = reading_whole run.result whole does.outcome.redacted in
                whole_text _ _ meter known left' reads c.requires.unread ends (record { text = text.text; gives = text.gives; is = adds text.text (reads text.text text.gives.bytes) });
            most = λ measured.
                let most = does.most measured in
                let read = reads most.given most.gives.bytes in
                numbers_of known left' c.args.counts.now run.new.counts c.args.lent.bytes meter.lent.bytes most.given read (adds most.given read) most.is;
          };
    })
