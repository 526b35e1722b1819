-- What the states of a walk backward tell: at each place the best of all patterns that begin there.
use Rattle.std.proofs.Common.{◌≡◌, ◌⊎◌, ◌↔◌, inl, inr, ℕ, ◌+◌, ◌-◌, ◌<◌, ◌≤◌, List, [], ◌∷◌, length, drop, reverse, refl, sym, ◌∙◌, ap, subst, arith}
use Rattle.std.specs.Prelude.{slice_index, slice_range}
use Rattle.std.proofs.lemmas.List.{length-drop, length-map, length-reverse, map-append}
use Rattle.std.proofs.lemmas.List.Elements.{All-weaker}
use Rattle.std.proofs.lemmas.List.Folds.{drop_split}
use Rattle.aho_core.specs.declared.search.Anchored.TheVariants.{No, Yes}
use Rattle.aho_core.specs.Best.{IsBestOrNone}
use Rattle.aho_core.specs.Bytes.{folded, folded_word}
use Rattle.aho_core.specs.Held.{held_after}
use Rattle.aho_core.specs.Laws.{Reads, longest}
use Rattle.aho_core.specs.Listing.{IsListedBy, IsMember}
use Rattle.aho_core.specs.MatchList.{matches_of}
use Rattle.aho_core.specs.Occurs.{Occurs}
use Rattle.aho_core.specs.Patterns.{Patterns, pattern_at}
use Rattle.aho_laws.specs.TrieLaws.{IsLongerOrFirst, IsSuffixOf}
use Rattle.aho_laws.proofs.Begins.{Begins, begins_shorter, begins_trans}
use Rattle.aho_laws.proofs.EndingLists.{held-longest_first, held-member, held-patterns_ending}
use Rattle.aho_laws.proofs.SpanTexts.{length_part}
use Rattle.aho_automaton.specs.declared.automaton.Automaton.{Ghosts as Automata}
use Rattle.aho_backward.specs.Backward.{IsTurnedFrom, TellsAt, told_back}
use Rattle.aho_backward.specs.Turned.{size_of, turned}
use Rattle.aho_backward.proofs.Leaders.{BeginsWord, begins-size, best-at, leader, long-pattern, occurs-begins}
use Rattle.aho_backward.proofs.TurnedWords.{begins-ends, ends-begins, length-turned, lengths-turned, longest-at, size-turned}

module _ {A : Type 0} (G : Automata A) (a : A) (given : List ℕ) (p : Patterns) (from : IsTurnedFrom G a given p)
    (laws : Reads (turned p given) (G.kind a) (G.lengths a) (G.held a (turned p given)) (G.list a) (G.dead a) (G.starts a)) where
  sizes : (i : ℕ) → i < length given → slice_index (G.lengths a) i ≡ size_of p (slice_index given i)
  sizes i lt = ap (λ (lengths : List ℕ). slice_index lengths i) laws.lengths_are ∙ lengths-turned p given i lt

  pub one_length_each : length given ≡ length (G.lengths a)
  one_length_each = sym (length-turned p given) ∙ sym (length-map (turned p given).words length) ∙ ap length (sym laws.lengths_are)

  -- the list of a state that is held after a word turned round
  list-is : (word : List ℕ) (sid : ℕ) → G.held a (turned p given) No (reverse word) sid → G.list a sid ≡ matches_of (turned p given) (held_after (turned p given) No (reverse word))
  list-is word sid held = laws.lists (reverse word) sid laws.kind_is held ∙ sym (held-patterns_ending (turned p given) refl (reverse word))

  module _ (haystack : List ℕ) (at seen : ℕ) (ordered : at ≤ seen) (within : seen ≤ length haystack) (far : (seen ≡ length haystack) ⊎ (at + longest (G.lengths a) ≤ seen)) where
    abbrev ahead : List ℕ
    ahead = slice_range haystack at seen

    front : Begins (folded_word p ahead) (folded_word p (drop at haystack))
    front = (folded_word p (drop seen haystack), sym (map-append (folded p) ahead (drop seen haystack)) ∙ ap (folded_word p) (sym (drop_split haystack at seen ordered)))

    -- a pattern that begins there ends in what was walked
    sees : (i : ℕ) → i < length given → BeginsWord p (drop at haystack) (slice_index given i) → BeginsWord p ahead (slice_index given i)
    sees i lt b =
        let pattern = folded_word p (pattern_at p (slice_index given i)) in
        let left : size_of p (slice_index given i) ≤ length haystack - at = omega (arith, begins-size p (drop at haystack) (slice_index given i) b, length-drop at haystack) in
        let short : size_of p (slice_index given i) ≤ seen - at = elim far [
          | inl last ↦ omega arith
          | inr further ↦ omega (arith, sizes i lt, longest-at (G.lengths a) i (omega (arith, one_length_each)))
        ] in
        (b.0, begins_shorter pattern (folded_word p ahead) (folded_word p (drop at haystack)) b.1 front (omega (arith, long-pattern p (slice_index given i), length-map ahead (folded p), length_part haystack at seen within)))

    -- the first of the list is the best of all
    first-best : (list : List ℕ) → ((i : ℕ) → IsMember list i ↔ IsSuffixOf (turned p given) (reverse ahead) i) → IsListedBy (IsLongerOrFirst (turned p given)) list
        → IsBestOrNone p.kind (Occurs p Yes haystack at (length haystack)) (told_back given (G.lengths a) at list)
    first-best [] has listed = λ other o.
        let first = leader p (drop at haystack) other.pattern (occurs-begins p haystack at other o) in
        let place = from.leading.all first.0 first.1.0 first.2 in
        let begins : BeginsWord p (drop at haystack) (slice_index given place.0) = subst (BeginsWord p (drop at haystack)) (sym place.2) first.1 in
        (has place.0).1 (begins-ends p given ahead place.0 (slice_index given place.0) place.1 refl (sees place.0 place.1 begins))
    first-best (i ∷ is) has listed =
        let ends = (has i).0 (inl refl) in
        let below : i < length given = omega (arith, ends.numbered, length-turned p given) in
        let k = slice_index given i in
        let leads = from.leading.each i below in
        let here = ends-begins p given ahead i leads.0 ends in
        let begins : BeginsWord p (drop at haystack) k = (leads.0, begins_trans (folded_word p (pattern_at p k)) (folded_word p ahead) (folded_word p (drop at haystack)) here.1 front) in
        best-at p haystack at (at + slice_index (G.lengths a) i) k (omega arith) (ap (λ (n : ℕ). at + n) (sizes i below)) begins leads.1
        (λ j j_leads j_begins.
        let place = from.leading.all j j_begins.0 j_leads in
        let x = place.0 in
        let x_begins : BeginsWord p (drop at haystack) (slice_index given x) = subst (BeginsWord p (drop at haystack)) (sym place.2) j_begins in
        let in_list = (has x).1 (begins-ends p given ahead x (slice_index given x) place.1 refl (sees x place.1 x_begins)) in
        let x_size : size_of (turned p given) x ≡ size_of p j = size-turned p given x place.1 ∙ ap (size_of p) place.2 in
        let i_size : size_of (turned p given) i ≡ size_of p k = size-turned p given i below in
        elim in_list [
          | inl same ↦ (let is_i : size_of (turned p given) x ≡ size_of (turned p given) i = ap (size_of (turned p given)) same in omega (arith, is_i, x_size, i_size))
          | inr later ↦
              elim (listed.0 x later) [
                | inl longer ↦ omega (arith, longer, x_size, i_size)
                | inr tie ↦ omega (arith, tie.0, x_size, i_size)
              ]
        ])

    pub tells : (sid : ℕ) → G.valid a sid → G.held a (turned p given) No (reverse ahead) sid → TellsAt G a given p haystack at sid
    tells sid valid held =
        let q = turned p given in
        let list = list-is ahead sid held in
        let word = reverse ahead in
        let size : length word ≡ seen - at = length-reverse ahead ∙ length_part haystack at seen within in
        record {
          valid = valid;
          fits =
              All-weaker (λ (k : ℕ). (k < length (G.lengths a)) × (slice_index (G.lengths a) k ≤ length word)) (λ (k : ℕ). (k < length (G.lengths a)) × (slice_index (G.lengths a) k ≤ length haystack - at))
              (λ k h. (h.0, omega (arith, h.1, size)))
              (G.list a sid) (laws.listed No word sid held);
          best =
              subst (λ (ks : List ℕ). IsBestOrNone p.kind (Occurs p Yes haystack at (length haystack)) (told_back given (G.lengths a) at ks)) (sym list)
              (first-best (matches_of q (held_after q No word)) (held-member q refl word) (held-longest_first q refl word));
        }
