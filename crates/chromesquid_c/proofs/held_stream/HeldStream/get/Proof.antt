-- `get` lends the value, and the `HeldStream` follows it.
use Rattle.std.proofs.Common.{◌≡◌, ℕ, List, [], ◌∷◌, refl, sym}
use seplogic.Ra.Ura.{Ura}
use mir.Syntax.{named}
use mir.Val.{Val, vptr}
use mir.Raw.{raw as bare}
use base.Fraction.{full_share}
use base.Logic.{SProp, ent, sep, id⊢}
use base.Fml.{GName, Fml, ftrue, fsep, flft}
use types.Logic.{Logic, sem}
use types.Kit.{‵, raw, ◌⊛◌, some, later, at_ret, ◌$◌, ◌∵◌, !, qed, move, keep, use1, split, split3, join, pick, fsplit, fsplit3, fjoin, fpack, suffices, frame, group, await, done, rewrite}
use types.Run.{stop, fld, load, of_opd, first, blocks, exec, returns, enter, addr}
use types.ByLocal.{alloc_all, pass_all, free_all, look_at, get, through, sets, sets_last, env}
use types.Part.{whole, sub, look_in}
use contract.Running.{tables}
use contract.Monad.{fact}
use denote.Exit.{no}
use denote.Memory.{part_at, mem, cell_at, part_of, lone}
use denote.RawPtr.{block_ptr}
use denote.Ref.{MutRef, mut_vals, mut_Tells}
use denote.Signature.{plain, mut_ref_to}
use denote.Steps.{nothing, heard}
use denote.Triple.Walked.{says, Stays, stay_dropped, walk_of, ends_at, Goes-spent_ref}
use denote.Follow.{follows, Part, lends_Part}
use Rattle.std.proofs.VecSteps.Shapes.{after}
use Rattle.std.proofs.raw_atomic.Walks.{proved}
use Rattle.std.specs.Prelude.{IsSome}
use Rattle.std.specs.declared.option.Option.TheVariants.{Some}
use Rattle.std.specs.contracts.alloc.Global.{the_row as Z}
use Rattle.std.specs.contracts.impls.GlobalAllocator.TheImpl.{ghosts}
use Rattle.chromesquid_c.specs.declared.held_stream.HeldStream.{HeldStream}
use Rattle.chromesquid_c.specs.Streaming.{PushedStream}
use Rattle.chromesquid_c.specs.StreamLending.{with_stream}
use Rattle.chromesquid_c.specs.contracts.pushed.Pushed.{the_row as R}
use Rattle.chromesquid_c.specs.contracts.held_stream.HeldStream.{the_row as Row}
use Rattle.chromesquid_c.proofs.Values.{both}
use Rattle.chromesquid_c.proofs.HeldStreams.{held_opens, held_in, some_of}
use Rattle.chromesquid_c.specs.contracts.held_stream.HeldStream.get.{ended, clauses}
use Rattle.chromesquid_c.specs.contracts.held_stream.HeldStream.get.Key.{name as #self}
use Rattle.chromesquid_c.proofs.held_stream.HeldStream.get.Statement.{statement}
use Rattle.chromesquid_c.proofs.held_stream.HeldStream.get.Code as code

abbrev stayed : Stays ended.signature.params ended.kept
stayed = (stay_dropped (mut_ref_to (0 ∷ []) tt (plain (λ _. Row))) no, tt)

-- all of the `HeldStream` but its value
abbrev Rest : HeldStream → ℕ → ℕ → ℕ → ℕ → Val → Fml
Rest d rb ro b o h = fsep (fsep (ghosts.dealloc_token d.alloc (bare (lone R.mir)) (block_ptr b o)) (Z.own_val d.alloc (h ∷ []))) (cell_at full_share Row.mir (both (vptr b o) h ∷ []) rb ro)

back : {M : Type 1} {𝓤 : Ura M} (𝓛 : Logic 𝓤) (d : HeldStream) (rb ro b o : ℕ) (h : Val) → d.at ≡ block_ptr b o → (w : PushedStream)
    → ent 𝓤 (sep 𝓤 (sem 𝓛 ((mem R).own_at w b o)) (sem 𝓛 (Rest d rb ro b o h))) (sem 𝓛 ((mem Row).own_at (with_stream d w) rb ro))
unfolding part_of
back 𝓛 d rb ro b o h at_b w =
    qed 𝓛 (‵ (part_at R full_share w b o) ∷ ‵ (Rest d rb ro b o h) ∷ []) ∵ move ! (1 ∷ []) $ fsplit ! $ fsplit ! $ move ! (3 ∷ 0 ∷ []) $ fjoin ! $
    held_in ! b o h d.alloc w $ rewrite ! 0 (λ p. ‵ (Row.own_val (record { at = p; alloc = d.alloc; value = Some w }) (both (vptr b o) h ∷ []))) (sym at_b) refl $ move ! (1 ∷ 0 ∷ []) $ fjoin ! $
    fpack ! (List Val) (λ us. fsep (cell_at full_share Row.mir us rb ro) (Row.own_val (with_stream d w) us)) (both (vptr b o) h ∷ []) $ done !

pub get_spec : {M : Type 1} → statement M
get_spec 𝓤 𝓛 𝓜 𝓡 wired =
    let H = 𝓛.H in let 𝓣 = tables 𝓤 H 𝓜 𝓡 𝓡.env in let c = clauses 𝓛 𝓜.mem 𝓡.returns in let W = walk_of 𝓛 ended stayed c in
    proved 𝓛 ended stayed c 𝓜 𝓡 (Goes-spent_ref 𝓛 1 (0 ∷ []) tt (plain (λ _. Row)), tt) #self code.function (code.unfolded 𝓤 H 𝓜 𝓡 wired)
    (λ κs. (mut_vals, tt)) (λ κs. (mut_Tells (named 0) κs.0 Row, tt)) (λ κs qs bounds a _ are.
    let κ = κs.0 in let q = qs.0 in let rb = a.0.ref_ptr.0 in let ro = a.0.ref_ptr.1 in let γ = a.0.ghost_name in let d = a.0.now in let vs = mut_vals a.0 in
    let y : W.Ghost = ((κs, qs, bounds, a, (vs, tt)), tt) in let Post : Val → SProp 𝓤 = W.post y in
    qed 𝓛 (((‵ (flft κ q) ⊛ ‵ ftrue) ⊛ ‵ ((MutRef (named 0) κ Row).own_val a.0 vs) ⊛ ‵ ftrue) ∷ raw (fact 𝓤 (IsSome d.value)) ∷ []) ∵ move ! (1 ∷ []) $ heard ! (IsSome d.value) (λ is.
    let x = (some_of d.value is).0 in let full = (some_of d.value is).1 in
    split ! $ split ! $ move ! (2 ∷ []) $ split ! $ keep ! (0 ∷ 2 ∷ []) $
    enter ! _ _ _ _ _ $ alloc_all ! (λ l. pass_all ! refl ((tt, tt), tt) $
    fsplit3 ! $ move ! (1 ∷ 2 ∷ 3 ∷ []) $ held_opens ! tt d x full rb ro (λ b o h at_b.
    first ! $ blocks ! $
    sets ! (of_opd ! (load ! (through ! refl (fld ! refl (stop !))) (look_in ! 2 (sub ! 0 refl (whole !))))) refl (tt, tt) $
    sets ! (of_opd ! (get ! refl)) refl (tt, tt) $
    sets_last ! (addr ! (through ! refl (stop !))) refl (tt, tt) $
    exec ! 𝓣.C 𝓣.Λ (env (code.function).locals l) (after 1 (code.function).body) (at_ret (env (code.function).locals l) Post) $
    sets ! (of_opd ! (get ! refl)) refl (tt, tt) $
    move ! (1 ∷ 2 ∷ []) $ fjoin ! $ move ! (2 ∷ 3 ∷ 4 ∷ 1 ∷ 0 ∷ []) $ group ! 5 $
    use1 𝓛 (later (some (λ (γ' : GName). raw (Part 𝓛 Row R (with_stream d) (named 0) κ q rb ro b o γ (sem 𝓛 (Rest d rb ro b o h)) (back 𝓛 d rb ro b o h at_b) x γ'))))
    (lends_Part 𝓛 Row R (with_stream d) (named 0) κ q rb ro b o γ (sem 𝓛 (Rest d rb ro b o h)) (back 𝓛 d rb ro b o h at_b) (Row.coded.code d) (Row.coded.code d) x) $ await ! tt $ pick ! (λ γ'.
    returns ! (look_at ! 0 refl) $ free_all ! refl $ keep ! (0 ∷ []) $
    use1 𝓛 (‵ ((MutRef (named 0) κ R).own_val (record { ref_ptr = (b, o); ghost_name = γ'; now = x }) (vptr b o ∷ [])) ⊛ ‵ (flft κ q) ⊛ ‵ (follows Row R γ γ' (with_stream d))) (id⊢ 𝓤 _) $ split3 ! $
    suffices ! _ (ends_at 𝓛 ended stayed c y (vptr b o) (record { ref_ptr = (b, o); ghost_name = γ'; now = x }) (tt, tt) (tt, tt)) $
    nothing ! $ nothing ! $ fjoin ! $ join ! $ nothing ! $ move ! (2 ∷ 0 ∷ []) $ join ! $ join ! $ frame ! $ says ! full $ done !)))))
