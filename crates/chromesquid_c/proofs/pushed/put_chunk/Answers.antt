-- It fits, so it is put.
use Rattle.std.proofs.Common.{◌≡◌, ◌∙◌, ◌≤◌, ℕ, List, length, ap, subst, inl, inr, arith}
use Rattle.std.proofs.lemmas.Bool.{cases_eq}
use Rattle.aho_core.specs.Replacement.{pieces_of}
use Rattle.aho_stream.specs.Replacing.{chunk_bytes}
use Rattle.chromesquid_c.specs.Replacing.{FitsInto}
use Rattle.chromesquid_c.specs.Streaming.{put_for}
use Rattle.chromesquid_c.proofs.Rooms.{chunk-fits}
use Rattle.chromesquid_c.proofs.pushed.put_chunk.Goals as goal

pub returns : goal.returns
returns c = record {
  put = λ given count last.
      let bytes = c.bytes_for-bytes.result.now in
      let is : bytes ≡ put_for c.args.piece.now c.args.progress.now given c.args.replace_with.now =
      c.bytes_for-bytes.ensures.bytes
      ∙ ap (λ (chunk : List ℕ). chunk_bytes c.args.piece.now chunk (pieces_of c.args.replace_with.now)) (c.bytes_told.ensures.bytes given count last) in
      let fits : length bytes ≤ length c.args.room.now =
      omega (arith, ap length is, chunk-fits c.args.piece.now c.args.progress.now c.args.replace_with.now c.args.room.now given c.requires.enough count) in
      elim (cases_eq c.put_bytes-fits.result 0) [
        | inl done ↦ (
          subst (λ (written : List ℕ). FitsInto written c.args.room.now c.put_bytes-fits.new.room) is (c.put_bytes-fits.ensures.put done),
          c.put_bytes-fits.ensures.len ∙ ap length is,
        )
        | inr other ↦ absurd (omega (arith, fits, (c.put_bytes-fits.ensures.no_room other).1))
      ];
}
