-- What was searched of a stream, put together from its reads.
use Rattle.acgrep.proofs.Common.{Appends, Appends-trans, Consumes-trans, Context, Job, Keeps, Patterns, Place, State, common_steps, length-take-le}
use Rattle.std.proofs.Common.{◌++◌, ◌+◌, ◌-◌, ◌<◌, ◌==◌, ◌∙◌, ◌∷◌, ◌≡◌, ◌≤◌, List, None, Option, Some, [], ap, append-nil, append_assoc, arith, drop, inl, inr, length, length-append, subst, sym, take, take-append-drop, true, ℕ}
use Rattle.std.proofs.Math.Seq.{drop-append-add, drop-append_seam}
use Rattle.std.proofs.lemmas.List.{get_or-append-add}
use Rattle.acgrep.specs.Contexts.{SearchesIn, SearchesText, around_of}
use Rattle.acgrep.specs.Filled.{ReadsOn}
use Rattle.acgrep.specs.Lines.{EndsLine, IsEnding, lines}
use Rattle.acgrep.specs.Streamed.{SearchesWhole}
use Rattle.acgrep.specs.Written.{IsSettled, SamePlace, SearchesPlain, after_lines}
use Rattle.acgrep.proofs.Around.{front_newline}
use Rattle.acgrep.proofs.LineLists.{ends_drop, lines_append}
use Rattle.acgrep.proofs.Tellings.{after_append, same_lines, same_trans, tells_join}
use Rattle.acgrep.proofs.Walked.{text_join}

-- bytes that are kept grow by none
pub keeps_nil : (x y : Option (List ℕ)) → Keeps x y → Appends x y []
keeps_nil x y keeps = grind (arith, common_steps)

-- one read after another
pub reads_both : (a b c : Option (List ℕ)) → ReadsOn a b → ReadsOn b c → ReadsOn a c
reads_both a b c (one, first) (other, second) = (one ++ other, Consumes-trans a b c one other first second)

module _ (ending : ℕ) where
  -- what stands behind a front ends as the whole does
  pub ends_behind : (front back : List ℕ) → EndsLine ending (front ++ back) → EndsLine ending back
  ends_behind front back ends = subst (EndsLine ending) (drop-append_seam front back) (ends_drop ending (front ++ back) (length front) ends)

  pub ends_joined : (front back : List ℕ) → EndsLine ending front → EndsLine ending back → EndsLine ending (front ++ back)
  ends_joined front [] one other = subst (EndsLine ending) (sym (append-nil front)) one
  ends_joined front (byte ∷ back) one other = λ some. subst (IsEnding ending (front ++ (byte ∷ back))) (omega (arith, length-append front (byte ∷ back)))
      (subst (λ (b : ℕ). (b == ending) ≡ true) (sym (get_or-append-add front (byte ∷ back) (length (byte ∷ back) - 1) 0)) (other (omega arith)))

module _ (p : Patterns) (job : Job) where
  -- what the writer held between them stays
  plain_more : (a b c : State) (x y y' z : Option (List ℕ)) (front back : List ℕ) → Keeps y y' → EndsLine job.style.ending front → (IsSettled job b → ⊥)
      → SearchesPlain p job a b x y front → SearchesPlain p job b c y' z back → SearchesPlain p job a c x z (front ++ back)
  plain_more a b c x y y' z front back keeps whole goes one other =
      let first = one.searches in
      let second = other.searches in
      let none : one.left ≡ [] = elim one.ends [ inl none ↦ none | inr settled ↦ absurd (goes settled) ] in
      let all : lines job.style.ending front ≡ first.searched = first.cut ∙ ap (λ (l : List ℕ). first.searched ++ lines job.style.ending l) none ∙ append-nil first.searched in
      let there : SamePlace job b.place (after_lines a.place first.searched) = first.placed (inr whole) in
      record {
        left = other.left;
        searches = record {
          at = length front + second.at;
          within = omega (arith, second.within, length-append front back);
          rest = second.rest ∙ sym (drop-append-add front back second.at);
          searched = first.searched ++ second.searched;
          cut = lines_append job.style.ending front back whole ∙ ap (λ (l : List (List ℕ)). l ++ lines job.style.ending back) all ∙ ap (λ (l : List (List ℕ)). first.searched ++ l) second.cut
              ∙ sym (append_assoc first.searched second.searched (lines job.style.ending other.left));
          tells = tells_join p job a b c x y z first.searched second.searched first.tells there (record {
            bytes = second.tells.bytes;
            told = second.tells.told;
            written = Appends-trans y y' z [] second.tells.bytes (keeps_nil y y' keeps) second.tells.written;
          });
          placed = λ h. subst (λ (place : Place). SamePlace job c.place place) (sym (after_append first.searched second.searched a.place))
              (same_trans job c.place (after_lines b.place second.searched) (after_lines (after_lines a.place first.searched) second.searched)
              (second.placed (elim h [ inl more ↦ inl more | inr ends ↦ inr (ends_behind job.style.ending front back ends) ]))
              (same_lines job second.searched b.place (after_lines a.place first.searched) there));
        };
        ends = other.ends;
      }

  more_in : (around : Option Context) (a b c : State) (x y y' z : Option (List ℕ)) (front back : List ℕ) → Keeps y y' → EndsLine job.style.ending front → (IsSettled job b → ⊥)
      → SearchesIn p job around a b x y front → SearchesIn p job around b c y' z back → SearchesIn p job around a c x z (front ++ back)
  more_in None a b c x y y' z front back keeps whole goes one other = plain_more a b c x y y' z front back keeps whole goes one other
  more_in (Some context) a b c x y y' z front back keeps whole goes one other = text_join p job context a b c x y y' z front back (keeps_nil y y' keeps) whole goes one other

  pub searches_more : (a b c : State) (x y y' z : Option (List ℕ)) (front back : List ℕ) → Keeps y y' → EndsLine job.style.ending front → (IsSettled job b → ⊥)
      → SearchesText p job a b x y front → SearchesText p job b c y' z back → SearchesText p job a c x z (front ++ back)
  searches_more a b c x y y' z front back keeps whole goes one other = more_in (around_of job) a b c x y y' z front back keeps whole goes one other

module _ (ending : ℕ) where
  -- the front of bytes up to behind a newline is whole lines
  pub front_whole : (bytes : List ℕ) (whole : ℕ) → whole ≤ length bytes → (0 < whole → IsEnding ending bytes (whole - 1)) → EndsLine ending (take whole bytes)
  front_whole bytes whole within newline some =
      let long : length (take whole bytes) ≡ whole = length-take-le whole bytes within in
      rw long (front_newline ending bytes whole (whole - 1) (omega (arith, long, some)) (newline (omega (arith, long, some))))

-- and what follows is kept
unfoldable pub whole_searched : (p : Patterns) (job : Job) (a b : State) (x y : Option (List ℕ)) (bytes kept : List ℕ) (whole : ℕ) → whole ≤ length bytes
    → (0 < whole → IsEnding job.style.ending bytes (whole - 1)) → kept ≡ drop whole bytes → SearchesText p job a b x y (take whole bytes) → SearchesWhole p job a b x y bytes kept
whole_searched p job a b x y bytes kept whole within newline rest searches = record {
  searched = take whole bytes;
  cut = sym (take-append-drop whole bytes) ∙ ap (λ (l : List ℕ). take whole bytes ++ l) (sym rest);
  whole = front_whole job.style.ending bytes whole within newline;
  searches = searches;
}
