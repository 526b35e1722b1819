-- At the end all bytes are mixed.
use Rattle.acredact.proofs.Common.{arith, mask_byte}
use Rattle.std.proofs.lemmas.List.FromFn.{fill_by_all}
use Rattle.acredact.proofs.hmac.mask_of.Goals as goal

pub returns : goal.returns
returns c =
    let (sized, mixed) = c.bytes.invariant in
    record { mask = fill_by_all (mask_byte c.args.with c.args.key.now) c.bytes.mask 64 0 sized (λ k below. mixed k (omega arith)) }
