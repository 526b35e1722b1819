-- What failure links are, and how many a step follows, said literally.
use Rattle.std.proofs.Common.{◌≡◌, ◌≢◌, ◌↔◌, inl, inr, ℕ, zero, suc, ◌+◌, ◌<◌, ◌≤◌, true, false, List, [], ◌∷◌, ◌++◌, length, refl, sym, ◌∙◌, ap, subst, arith, length-append}
use Rattle.std.specs.Prelude.{Option, Some, None}
use Rattle.std.proofs.lemmas.Bool.{cases_Bool, cond-true, cond-false}
use Rattle.aho_core.specs.declared.search.Anchored.TheVariants.{No}
use Rattle.aho_core.specs.declared.search.MatchKind.TheVariants.{Standard}
use Rattle.aho_laws.proofs.ByLinks.{failure-is_node}
use Rattle.aho_laws.proofs.Kept.{is_cut-from, is_cut-true, other_than_standard, standard_only}
use Rattle.aho_laws.proofs.Stands.{Stands, from_occurs, to_occurs, length-folded, stands_at}
use Rattle.aho_laws.proofs.LiteralReadings.{dead-occurrence, live-occurrences, longest_node, longest_node-is, longest_node-size, state-longest}
use Rattle.aho_laws.proofs.LookUps.{lookups-taken, lookups-failure}
use Rattle.aho_core.specs.Bytes.{folded, folded_word}
use Rattle.aho_core.specs.Failure.{failure_of, is_cut, is_leftmost, state_after}
use Rattle.aho_core.specs.Occurrence.{Occurrence}
use Rattle.aho_core.specs.Patterns.{Patterns}
use Rattle.aho_core.specs.Step.{lookups}
use Rattle.aho_core.specs.Trie.{is_node, pattern_word}
use Rattle.aho_laws.specs.TrieLaws.{FollowsLinks, IsLongestNode, IsTrieState, OccursBefore, Takes}

module _ (p : Patterns) where
  -- a word that is not cut leads where the word without its first byte does
  failure-uncut : (x : ℕ) (w : List ℕ) → is_cut p (x ∷ w) ≡ false → failure_of p (x ∷ w) ≡ state_after p w
  failure-uncut x w uncut = cond-false (is_cut p (x ∷ w)) None (state_after p w) uncut

  failure-cut : (x : ℕ) (w : List ℕ) → is_cut p (x ∷ w) ≡ true → failure_of p (x ∷ w) ≡ None
  failure-cut x w cut = cond-true (is_cut p (x ∷ w)) None (state_after p w) cut

  -- a link that is not dead is to a word that is not cut
  uncut-of_link : (x : ℕ) (w v : List ℕ) → failure_of p (x ∷ w) ≡ Some v → is_cut p (x ∷ w) ≡ false
  uncut-of_link x w v e =
      elim (cases_Bool (is_cut p (x ∷ w))) [
        | inl cut ↦ (let clash : None ≡ Some v = sym (failure-cut x w cut) ∙ e in cc)
        | inr uncut ↦ uncut
      ]

  -- it is the longest node that ends the word without its first byte
  pub failure-longest : (x : ℕ) (w v : List ℕ) → failure_of p (x ∷ w) ≡ Some v → IsLongestNode p w v
  failure-longest x w v e =
      let state : state_after p w ≡ Some v = sym (failure-uncut x w (uncut-of_link x w v e)) ∙ e in
      subst (IsLongestNode p w) (sym (state-longest p w v state)) (longest_node-is p w)

  -- what stands in a word stands one place on in the word with a byte before it
  stands-later : (x : ℕ) (w : List ℕ) (n : Occurrence) → Stands p No w n → Stands p No (x ∷ w) (record { pattern = n.pattern; start = n.start + 1; end = n.end + 1 })
  stands-later x w n o = record {
    below = o.below;
    front = x ∷ o.front;
    rest = o.rest;
    parts = ap (λ (v : List ℕ). x ∷ v) o.parts;
    start = omega (arith, o.start);
    end = omega (arith, o.end);
    at = λ anchored. cc;
  }

  -- a dead link has an occurrence in the word that starts before that node
  dead-link : (x : ℕ) (w : List ℕ) → failure_of p (x ∷ w) ≡ None → (is_leftmost p.kind ≡ true) × ((n : Occurrence) × Stands p No (x ∷ w) n × (n.start + length (longest_node p w) < length w + 1))
  dead-link x w e =
      elim (cases_Bool (is_cut p (x ∷ w))) [
        | inl cut ↦
            (let c = is_cut-true p (x ∷ w) cut in
            let node = longest_node-is p w in (
              c.0,
              (
                record { pattern = c.1.0; start = 0; end = length (pattern_word p c.1.0) },
                stands_at p No (x ∷ w) [] (x ∷ w) c.1.0 (length (pattern_word p c.1.0)) refl (λ y. cc) c.1.1 c.1.2 (omega arith),
                omega (arith, ap length node.parts, length-append node.front (longest_node p w)),
              ),
            ))
        | inr uncut ↦
            (let dead : state_after p w ≡ None = sym (failure-uncut x w uncut) ∙ e in
            let t = dead-occurrence p w dead in (
              t.0,
              (record { pattern = t.1.0.pattern; start = t.1.0.start + 1; end = t.1.0.end + 1 }, stands-later x w t.1.0 t.1.1, omega (arith, t.1.2)),
            ))
      ]

  -- and another link has none
  live-link : (x : ℕ) (w v : List ℕ) (n : Occurrence) → is_leftmost p.kind ≡ true → failure_of p (x ∷ w) ≡ Some v → Stands p No (x ∷ w) n → length w + 1 ≤ n.start + length v
  live-link x w v n leftmost e o = by_front o.front o.parts (sym o.start)
    where
      uncut : is_cut p (x ∷ w) ≡ false
      uncut = uncut-of_link x w v e

      by_front : (front : List ℕ) → x ∷ w ≡ front ++ (pattern_word p n.pattern ++ o.rest) → length front ≡ n.start → length w + 1 ≤ n.start + length v
      by_front [] parts start =
          let clash : true ≡ false = sym (is_cut-from p (x ∷ w) n.pattern leftmost o.below (o.rest, sym parts)) ∙ uncut in cc
      by_front (y ∷ front) parts start =
          let earlier : Stands p No w (record { pattern = n.pattern; start = length front; end = length front + length (pattern_word p n.pattern) }) = record {
            below = o.below;
            front = front;
            rest = o.rest;
            parts = cc parts;
            start = refl;
            end = refl;
            at = λ anchored. cc;
          } in
          omega (arith, start, live-occurrences p w v (record { pattern = n.pattern; start = length front; end = length front + length (pattern_word p n.pattern) }) leftmost (sym (failure-uncut x w uncut) ∙ e) earlier)

  -- so a link is dead exactly where the kind is leftmost and a pattern occurs before that node
  pub failure-dead : (byte : ℕ) (w u : List ℕ) → IsLongestNode p (folded_word p w) u → (failure_of p (folded_word p (byte ∷ w)) ≡ None) ↔ ((p.kind ≢ Standard) × OccursBefore p (byte ∷ w) (length u))
  failure-dead byte w u h = (
    (λ e.
        let t = dead-link (folded p byte) (folded_word p w) e in (
          standard_only p.kind t.0,
          record { found = t.1.0; occurs = to_occurs p No (byte ∷ w) t.1.0 t.1.1; before = omega (arith, t.1.2, longest_node-size p (folded_word p w) u h, length-folded p w) },
        )),
    (λ b. by_link (failure_of p (folded_word p (byte ∷ w))) refl b.0 b.1),
  )
    where
      by_link : (s : Option (List ℕ)) → failure_of p (folded_word p (byte ∷ w)) ≡ s → p.kind ≢ Standard → OccursBefore p (byte ∷ w) (length u) → failure_of p (folded_word p (byte ∷ w)) ≡ None
      by_link None e other b = e
      by_link (Some v) e other b =
          absurd
          (omega (
            arith,
            live-link (folded p byte) (folded_word p w) v b.found (other_than_standard p.kind other) e (from_occurs p No (byte ∷ w) b.found b.occurs),
            longest_node-size p (folded_word p w) v (failure-longest (folded p byte) (folded_word p w) v e),
            longest_node-size p (folded_word p w) u h,
            length-folded p w,
            b.before,
          ))

  -- a step looks up one state more than it follows links
  pub lookups-links : (links : ℕ) (state : Option (List ℕ)) (x : ℕ) → IsTrieState p state → FollowsLinks p state x links → lookups p No state x ≡ 1 + links
  lookups-links zero None x node follows = refl
  lookups-links zero (Some []) x node follows = refl
  lookups-links zero (Some (y ∷ u)) x node follows = lookups-taken p (y ∷ u) x follows
  lookups-links (suc links) None x node follows = absurd follows
  lookups-links (suc links) (Some []) x node follows = absurd follows
  lookups-links (suc links) (Some (y ∷ u)) x node follows =
      omega (arith, lookups-failure p y u x node follows.0, lookups-links links (failure_of p (y ∷ u)) x (link_state (failure_of p (y ∷ u)) refl) follows.1)
    where
      link_state : (s : Option (List ℕ)) → failure_of p (y ∷ u) ≡ s → IsTrieState p s
      link_state None e = tt
      link_state (Some v) e = (failure-is_node p y u v e).0

  -- and it follows as many as there are until a state takes the byte: a word of so many bytes at most
  follows-some : (most : ℕ) (u : List ℕ) (x : ℕ) → length u ≤ most → (links : ℕ) × FollowsLinks p (Some u) x links
  follows-some most [] x short = (0, tt)
  follows-some zero (y ∷ u) x short = absurd (omega arith)
  follows-some (suc most) (y ∷ u) x short =
      elim (cases_Bool (is_node p (y ∷ u ++ x ∷ []))) [
        | inl node ↦ (0, node)
        | inr other ↦ (let t = from_link (failure_of p (y ∷ u)) refl (λ v short. follows-some most v x short) in (suc t.0, (other, t.1)))
      ]
    where
      from_link : (s : Option (List ℕ)) → failure_of p (y ∷ u) ≡ s → ((v : List ℕ) → length v ≤ most → (links : ℕ) × FollowsLinks p (Some v) x links)
          → (links : ℕ) × FollowsLinks p (failure_of p (y ∷ u)) x links
      from_link None e further = (0, subst (λ (s : Option (List ℕ)). Takes p s x) (sym e) tt)
      from_link (Some v) e further =
          let t = further v (omega (arith, (failure-is_node p y u v e).1)) in
          (t.0, subst (λ (s : Option (List ℕ)). FollowsLinks p s x t.0) (sym e) t.1)

  pub follows-exists : (state : Option (List ℕ)) (x : ℕ) → (links : ℕ) × FollowsLinks p state x links
  follows-exists None x = (0, tt)
  follows-exists (Some u) x = follows-some (length u) u x (omega arith)
