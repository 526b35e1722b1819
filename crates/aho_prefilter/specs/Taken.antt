-- To which builder which patterns were added. It keeps none of them, so this is said of each list of patterns that it may
-- have been.
use Rattle.std.specs.Prelude.{◌≡◌, ◌-◌, false, length}
use Rattle.std.specs.Option.{option_map}
use Rattle.aho_core.specs.Patterns.{Patterns}
use Rattle.aho_prefilter.specs.Inside.{few_of, whole_of}
use Rattle.aho_prefilter.specs.Packed.{packed_of}
use Rattle.aho_prefilter.specs.Prefilter.{has_short}
use Rattle.aho_prefilter.specs.declared.prefilter.packed_builder.Fingerprints.{Fingerprints}
use Rattle.aho_prefilter.specs.declared.prefilter.packed_builder.PackedBuilder.{PackedBuilder}
use Rattle.aho_prefilter.specs.declared.prefilter.builder.PrefilterBuilder.{PrefilterBuilder}

-- these patterns, by whatever kind, were added, and no more
pub record HasTaken (builder : PrefilterBuilder) (p : Patterns) : Type 0 where
  pub rule : builder.ignore_case ≡ p.ignore_case
  pub whole : option_map (λ copy. copy.items) builder.whole ≡ whole_of p
  pub first_bytes : builder.first_bytes ≡ few_of p

-- the same of the fingerprints: where a pattern is short they do not matter
pub record AreFingerprints (kept : Fingerprints) (p : Patterns) : Type 0 where
  pub rule : kept.ignore_case ≡ p.ignore_case
  pub room : kept.room ≡ 101 - length p.words
  pub short : kept.has_short ≡ has_short p
  pub packed : has_short p ≡ false → kept.packed ≡ packed_of p.ignore_case p.words

-- and of a builder that may hold a packed search
pub record HasTakenPacked (builder : PackedBuilder) (p : Patterns) : Type 0 where
  pub others : HasTaken builder.others p
  pub fingerprints : AreFingerprints builder.fingerprints p
