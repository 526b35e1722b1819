use Rattle.std.proofs.Common.{ℕ, List, subst, sym, arith}
use Rattle.std.specs.Prelude.{None, Result, Ok, Err, OnOk}
use Rattle.std.specs.Io.KnownBytes.{Appends}
use Rattle.aho_core.specs.declared.error.stream.StreamError.{StreamError}
use Rattle.aho_core.specs.Iteration.{AreFinds}
use Rattle.aho_core.specs.Patterns.{Patterns}
use Rattle.aho_core.specs.Replacement.{pieces_of, replaced}
use Rattle.aho_core.specs.Search.{plain_search}
use Rattle.aho_devices.specs.declared.device.Sink.{Ghosts as SinkGhosts}
use Rattle.aho_devices.specs.declared.device.Source.{Ghosts as SourceGhosts}
use Rattle.aho_laws.proofs.Iterations.{finds-exist}
use Rattle.aho_stream.specs.Replacing.{ReplacesStream}
use Rattle.chromesquid.specs.Alike.{ReplacesAlike}
use Rattle.chromesquid.proofs.answers.rows_do_not_change_replaced_streams.Goals as goal

-- two replacements for the same patterns
both : {R W : Type 0} (S : SourceGhosts R) (K : SinkGhosts W) (Of Other : Patterns → Type 0) (pieces : List (List ℕ)) (source source' other other' : R) (sink sink' second second' : W) (p : Patterns) → Of p → Other p
    → ReplacesStream S K Of pieces source source' sink sink' → (result : Result (Unit {0}) StreamError) → OnOk result (ReplacesStream S K Other pieces other other' second second')
    → OnOk result (ReplacesAlike S K source source' other other' sink sink' second second')
both S K Of Other pieces source source' other other' sink sink' second second' p of too one (Ok done) two = record {
  one = record { given = one.given; gives = one.gives };
  two = record { given = two.given; gives = two.gives };
  alike = λ same.
      let found = finds-exist p (plain_search one.given) None (omega arith) in (
        replaced one.given found.0 pieces,
        one.writes p found.0 of found.1,
        subst (λ (bytes : List ℕ). Appends (K.taken second) (K.taken second') (replaced bytes found.0 pieces)) (sym same)
            (two.writes p found.0 too (subst (λ (bytes : List ℕ). AreFinds p (plain_search bytes) None found.0) same found.1)),
      );
}
both S K Of Other pieces source source' other other' sink sink' second second' p of too one (Err error) two = tt

pub returns : goal.returns
returns g c =
    let of = c.requires.of in
    record { alike = both g.R.Source g.W.Sink _ _ (pieces_of c.args.replace_with.now) _ _ _ _ _ _ _ _ of.0 of.1 of.2 c.in_ok-replace_stream.ensures.leaves.replaced c.replace_stream-2.result c.replace_stream-2.ensures.leaves.replaced }
