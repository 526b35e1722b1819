use Rattle.std.proofs.Common.{◌≡◌, ◌-◌}
use Rattle.std.specs.List.{range_with_len}
use Rattle.regex.specs.Locations.{AreLocationsOf, location_count}
use Rattle.regex.specs.Patterns.{Match}
use Rattle.secret_rules.specs.Secrets.{first_filled}
use Rattle.secret_rules.proofs.reader.first_secret.Given as goal

abbrev pub invariant-groups : goal.invariant-groups
invariant-groups l = (m : Match) → AreLocationsOf m l.locations
    → first_filled m (range_with_len 1 (location_count l.locations - 1)) ≡ first_filled m (range_with_len l.number (location_count l.locations - l.number))
