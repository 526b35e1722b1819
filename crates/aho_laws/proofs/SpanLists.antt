-- The list of all occurrences of a span, from that of its bytes as a text of their own.
use Rattle.std.proofs.Common.{◌≡◌, ℕ, ◌+◌, ◌-◌, ◌≤◌, List, length, map, sym, subst, arith}
use Rattle.std.specs.Prelude.{slice_range}
use Rattle.aho_core.specs.declared.search.Anchored.TheVariants.{No}
use Rattle.aho_core.specs.declared.search.MatchKind.TheVariants.{Standard}
use Rattle.aho_core.specs.Listing.{IsMember}
use Rattle.aho_core.specs.Occurrence.{Occurrence}
use Rattle.aho_core.specs.Occurs.{Occurs}
use Rattle.aho_core.specs.Order.{IsBefore}
use Rattle.aho_core.specs.Overlapping.{all_occurrences}
use Rattle.aho_core.specs.Patterns.{Patterns}
use Rattle.aho_laws.specs.CutLaws.{moved}
use Rattle.aho_laws.proofs.ClearCuts.{Occurs-in}
use Rattle.aho_laws.proofs.Listings.{all_occurrences-has, all_occurrences-listed, all_occurrences-only}
use Rattle.aho_laws.proofs.Members.{listed-by_weaker, listed-map, member-map, member-of_map}
use Rattle.aho_laws.proofs.Orders.{IsBefore-irreflexive, IsBefore-trans}
use Rattle.aho_laws.proofs.OverlappingParts.{listed-same}
use Rattle.aho_laws.proofs.SpanTexts.{Occurs-moved, Occurs-moved_back, length_part, moved-before, moved-moved_back, moved_back}

module _ (p : Patterns) (haystack : List ℕ) (start end : ℕ) where
  abbrev part : List ℕ
  part = slice_range haystack start end

  abbrev list_of_part : List Occurrence
  list_of_part = all_occurrences p part 0 (length part)

  -- what is listed in the part occurs in the span, further on
  moved-only : (m : Occurrence) → start ≤ end → end ≤ length haystack → IsMember (map (moved start) list_of_part) m → Occurs p No haystack start end m
  moved-only m le within h =
      let long : length part ≡ end - start = length_part haystack start end within in
      let made = member-of_map (moved start) list_of_part m h in
      let there = Occurs-moved p haystack start end 0 (length part) made.0 (omega arith) (all_occurrences-only p part 0 (length part) made.0 (omega arith) made.1) in
      subst (Occurs p No haystack start end) (sym made.2)
      (Occurs-in p haystack (start + 0) (start + length part) start end (moved start made.0) (omega (arith, there.after_start)) (omega (arith, there.before_end)) there)

  -- and the other way round
  moved-has : (m : Occurrence) → start ≤ end → end ≤ length haystack → Occurs p No haystack start end m → IsMember (map (moved start) list_of_part) m
  moved-has m le within occurs =
      let long : length part ≡ end - start = length_part haystack start end within in
      let here = Occurs-in p haystack start end (start + 0) (start + length part) m (omega (arith, occurs.after_start)) (omega (arith, occurs.before_end)) occurs in
      let there = Occurs-moved_back p haystack start end 0 (length part) m (omega arith) here in
      subst (IsMember (map (moved start) list_of_part)) (moved-moved_back start m occurs.after_start (omega (arith, occurs.after_start, occurs.sized)))
      (member-map (moved start) list_of_part (moved_back start m) (all_occurrences-has p part 0 (length part) (moved_back start m) there))

  pub all_occurrences-span : start ≤ end → end ≤ length haystack
      → all_occurrences p haystack start end ≡ map (moved start) (all_occurrences p (slice_range haystack start end) 0 (length (slice_range haystack start end)))
  all_occurrences-span le within =
      listed-same (IsBefore Standard) (all_occurrences p haystack start end) (map (moved start) list_of_part) (IsBefore-irreflexive Standard) (IsBefore-trans Standard)
      (all_occurrences-listed p haystack start end)
      (listed-map (IsBefore Standard) (moved start) list_of_part
      (listed-by_weaker (IsBefore Standard) (λ x y. IsBefore Standard (moved start x) (moved start y)) list_of_part (moved-before Standard start) (all_occurrences-listed p part 0 (length part))))
      (λ m in_all. moved-has m le within (all_occurrences-only p haystack start end m within in_all))
      (λ m in_moved. all_occurrences-has p haystack start end m (moved-only m le within in_moved))
