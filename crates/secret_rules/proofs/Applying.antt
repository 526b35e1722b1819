-- A rule applies where an occurrence of one of its keywords was found, by the numbers of the rules of all keywords.
use Rattle.std.proofs.Common.{◌≡◌, ◌∙◌, ◌⊎◌, ◌↔◌, ℕ, ◌+◌, ◌<◌, List, [], ◌∷◌, Some, length, flat_map, get_or, ap, sym, refl, is_some, None, Option, false, subst, arith, inl, inr, slice_index, zero-add, All, Bool, true, IsTrue, map, string_bytes, vec_len, option_map}
use Rattle.std.proofs.lemmas.Bool.{eqb-true, eq-eqb, false≢true}
use Rattle.std.proofs.lemmas.List.{get_or_default, length-map, nil_from_length}
use Rattle.std.proofs.lemmas.Option.{get_or_from_slice_get, slice_get-map, slice_get_within}
use Rattle.std.proofs.lemmas.Option.{same_Some}
use Rattle.std.specs.List.{slice_get}
use Rattle.aho_core.specs.Answer.{IsAnswer}
use Rattle.aho_core.specs.Listing.{IsMember}
use Rattle.aho_core.specs.Occurrence.{Occurrence}
use Rattle.aho_core.specs.Occurs.{Occurs, OccursIn}
use Rattle.aho_core.specs.Overlapping.{all_occurrences}
use Rattle.aho_core.specs.Patterns.{Patterns}
use Rattle.aho_core.specs.Search.{plain_search}
use Rattle.aho_core.specs.Bytes.{IsSameWord}
use Rattle.std.specs.List.{slice_range}
use Rattle.aho_core.specs.declared.search.Anchored.TheVariants.{No}
use Rattle.aho_laws.proofs.Listings.{all_occurrences-has, all_occurrences-only}
use Rattle.chromesquid.specs.Searcher.{TellsIfFound}
use Rattle.secret_rules.specs.Keywords.{HasOwner, all_keywords, owners_from}
use Rattle.secret_rules.specs.Rules.{AppliesTo, KeywordOccurs, keyword_patterns, keywords_of}
use Rattle.secret_rules.specs.declared.rule.Rule.{Rule}
use Rattle.secret_rules.specs.Keywords.{is_always}
use Rattle.secret_rules.specs.Markers.{AreFlagsFor, flag_at}
use Rattle.secret_rules.proofs.Membership.{member-at}
use Rattle.secret_rules.proofs.Owners.{length-owners, member-get_or, word-owned, word-placed}

HasOwner-some : (owners : List ℕ) (ms : List Occurrence) (number : ℕ) → HasOwner owners ms number → (m : Occurrence) × IsMember ms m × (slice_index owners m.pattern ≡ number)
HasOwner-some owners [] number h = absurd h
HasOwner-some owners (m ∷ ms) number (inl here) = (m, inl refl, here)
HasOwner-some owners (m ∷ ms) number (inr later) = let rest = HasOwner-some owners ms number later in (rest.0, inr rest.1, rest.2)

HasOwner-of : (owners : List ℕ) (ms : List Occurrence) (number : ℕ) (m : Occurrence) → IsMember ms m → slice_index owners m.pattern ≡ number → HasOwner owners ms number
HasOwner-of owners [] number m is e = absurd is
HasOwner-of owners (n ∷ ms) number m (inl here) e = inl (ap (λ (x : Occurrence). slice_index owners x.pattern) (sym here) ∙ e)
HasOwner-of owners (n ∷ ms) number m (inr later) e = inr (HasOwner-of owners ms number m later e)

-- an occurrence of a word by one list of keywords is one by another that has it
moved_to : (words others : List (List ℕ)) (line : List ℕ) (m : Occurrence) (to : ℕ) → to < length others → get_or others to [] ≡ get_or words m.pattern []
    → Occurs (keyword_patterns words) No line 0 (length line) m
    → Occurs (keyword_patterns others) No line 0 (length line) (record { pattern = to; start = m.start; end = m.end })
moved_to words others line m to within same h = record {
  numbered = within;
  after_start = h.after_start;
  before_end = h.before_end;
  sized = ap (λ (w : List ℕ). m.start + length w) same ∙ h.sized;
  same = subst (λ (w : List ℕ). IsSameWord (keyword_patterns others) w (slice_range line m.start m.end)) (sym same) h.same;
  admitted = λ e. h.admitted e;
}

-- where a search is told to find nothing, nothing occurs
pub nothing-occurs : (p : Patterns) (line : List ℕ) (told : Bool) → TellsIfFound p (record (plain_search line) { earliest = true }) told → told ≡ false
    → (m : Occurrence) → OccursIn p (plain_search line) m → ⊥
nothing-occurs p line told tells not = by tells.answer tells.answers (sym tells.is ∙ not)
  where
    by : (answer : Option Occurrence) → IsAnswer p (record (plain_search line) { earliest = true }) answer → is_some answer ≡ false
        → (m : Occurrence) → OccursIn p (plain_search line) m → ⊥
    by None answers is = answers
    by (Some found) answers is = absurd (false≢true (sym is))

always-keywords : (rule : Rule) → is_always rule ≡ true → keywords_of rule ≡ []
always-keywords rule is =
    let none : vec_len rule.keywords ≡ 0 = eqb-true _ _ is in
    ap (map string_bytes) (nil_from_length rule.keywords.items (omega (arith, rule.keywords.ok)))

keywords-always : (rule : Rule) → keywords_of rule ≡ [] → is_always rule ≡ true
keywords-always rule none =
    let count : length rule.keywords.items ≡ 0 = sym (length-map rule.keywords.items string_bytes) ∙ ap length none in
    eq-eqb _ _ (omega (arith, rule.keywords.ok))

module _ (rules : List Rule) (line : List ℕ) (number : ℕ) (rule : Rule) (held : slice_get rules number ≡ Some rule) where
  pub found-occurs : HasOwner (owners_from 0 rules) (all_occurrences (all_keywords rules) line 0 (length line)) number
      → (keyword : List ℕ) × IsMember (keywords_of rule) keyword × KeywordOccurs line keyword
  found-occurs h =
      let some = HasOwner-some (owners_from 0 rules) (all_occurrences (all_keywords rules) line 0 (length line)) number h in
      let m = some.0 in
      let occurs = all_occurrences-only (all_keywords rules) line 0 (length line) m (omega arith) some.1 in
      let owned = word-owned 0 rules m.pattern occurs.numbered in
      let at : owned.at ≡ number = sym (zero-add owned.at) ∙ sym owned.owner ∙ some.2 in
      let is : owned.rule ≡ rule = same_Some _ _ (sym owned.numbered ∙ ap (slice_get rules) at ∙ held) in
      let word = get_or (flat_map keywords_of rules) m.pattern [] in (
        word,
        subst (λ (r : Rule). IsMember (keywords_of r) word) is owned.word,
        (record { pattern = 0; start = m.start; end = m.end }, moved_to (flat_map keywords_of rules) (word ∷ []) line m 0 (omega arith) refl occurs),
      )

  -- an occurrence of a keyword of the rule is one among those of all keywords
  occurs-among : (keyword : List ℕ) → IsMember (keywords_of rule) keyword → KeywordOccurs line keyword
      → (m : Occurrence) × Occurs (all_keywords rules) No line 0 (length line) m × (slice_index (owners_from 0 rules) m.pattern ≡ number)
  occurs-among keyword is occurs =
      let m = occurs.0 in
      let placed = word-placed 0 rules number rule keyword held is in
      let only : m.pattern ≡ 0 = omega (arith, occurs.1.numbered) in
      let same : get_or (flat_map keywords_of rules) placed.place [] ≡ get_or (keyword ∷ []) m.pattern [] = placed.is ∙ sym (ap (λ n. get_or (keyword ∷ []) n []) only) in
      let here = moved_to (keyword ∷ []) (flat_map keywords_of rules) line m placed.place placed.within same occurs.1 in
      (record { pattern = placed.place; start = m.start; end = m.end }, here, placed.owner ∙ zero-add number)

  pub occurs-found : (keyword : List ℕ) → IsMember (keywords_of rule) keyword → KeywordOccurs line keyword
      → HasOwner (owners_from 0 rules) (all_occurrences (all_keywords rules) line 0 (length line)) number
  occurs-found keyword is occurs =
      let among = occurs-among keyword is occurs in
      HasOwner-of (owners_from 0 rules) _ number among.0 (all_occurrences-has (all_keywords rules) line 0 (length line) among.0 among.1) among.2

  -- where each rule has keywords, and none of them occurs in the line, the rule does not apply to it
  pub does_not_apply : (IsMember (map is_always rules) true → ⊥) → ((m : Occurrence) → OccursIn (all_keywords rules) (plain_search line) m → ⊥)
      → AppliesTo rule line → ⊥
  does_not_apply some none applies =
      elim applies [
        | inl empty ↦
            some (member-at (map is_always rules) number true (slice_get-map is_always rules number ∙ ap (option_map is_always) held ∙ ap Some (keywords-always rule empty)))
        | inr keyword ↦ let among = occurs-among keyword.0 keyword.1 keyword.2 in none among.0 among.1
      ]

module _ (rules : List Rule) (line : List ℕ) (found : List Occurrence) (all : found ≡ all_occurrences (all_keywords rules) line 0 (length line))
    (owners : List ℕ) (owned : owners ≡ owners_from 0 rules) where
  -- each occurrence is of a keyword that has an owner
  pub found-numbered : All (λ m. m.pattern < length owners) found
  found-numbered k d within =
      let is = subst (λ (ms : List Occurrence). IsMember ms (get_or found k d)) all (member-get_or found k d within) in
      let occurs = all_occurrences-only (all_keywords rules) line 0 (length line) (get_or found k d) (omega arith) is in
      let count : length owners ≡ length (flat_map keywords_of rules) = ap length owned ∙ length-owners 0 rules in
      omega (arith, occurs.numbered)

  -- and each owner is the number of a rule
  pub owners-below : All (λ owner. owner < length rules) owners
  owners-below k d within =
      let count : length owners ≡ length (flat_map keywords_of rules) = ap length owned ∙ length-owners 0 rules in
      let word = word-owned 0 rules k (omega arith) in
      let is : get_or owners k d ≡ word.at = get_or_default owners k d 0 within ∙ ap (λ (xs : List ℕ). get_or xs k 0) owned ∙ word.owner ∙ zero-add word.at in
      let below : word.at < length rules = slice_get_within rules word.at word.rule word.numbered in
      omega arith

  pub AreFlagsFor-set : (old new : List Bool) → old ≡ map is_always rules → length new ≡ length rules
      → ((k : ℕ) → IsTrue (flag_at new k) ↔ (IsTrue (flag_at old k) ⊎ HasOwner owners found k)) → AreFlagsFor rules line new
  AreFlagsFor-set old new always count set = record {
    count = count;
    tell = λ number rule held.
        let first : flag_at old number ≡ is_always rule = ap (λ (flags : List Bool). flag_at flags number) always
        ∙ get_or_from_slice_get (map is_always rules) number (is_always rule) false (slice_get-map is_always rules number ∙ ap (option_map is_always) held) in (
          λ is. elim ((set number).0 is) [
            | inl flag ↦ inl (always-keywords rule (sym first ∙ flag))
            | inr owner ↦ inr (found-occurs rules line number rule held (moved number owner))
          ],
          λ applies. (set number).1 (elim applies [
            | inl none ↦ inl (first ∙ keywords-always rule none)
            | inr some ↦ inr (back number (occurs-found rules line number rule held some.0 some.1 some.2))
          ]),
        );
  }
    where
      moved : (number : ℕ) → HasOwner owners found number → HasOwner (owners_from 0 rules) (all_occurrences (all_keywords rules) line 0 (length line)) number
      moved number h = subst (λ (os : List ℕ). HasOwner os (all_occurrences (all_keywords rules) line 0 (length line)) number) owned
          (subst (λ (ms : List Occurrence). HasOwner owners ms number) all h)

      back : (number : ℕ) → HasOwner (owners_from 0 rules) (all_occurrences (all_keywords rules) line 0 (length line)) number → HasOwner owners found number
      back number h = subst (λ (ms : List Occurrence). HasOwner owners ms number) (sym all)
          (subst (λ (os : List ℕ). HasOwner os (all_occurrences (all_keywords rules) line 0 (length line)) number) (sym owned) h)
