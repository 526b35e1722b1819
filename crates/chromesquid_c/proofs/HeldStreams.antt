-- A `HeldStream` by its machine value. Assumes `Logic`.
--     held_in, held_out     a `HeldStream` with a value is [what a box owns at its pointer; the handle]
use Rattle.std.proofs.Common.{◌≡◌, ℕ, List, [], ◌∷◌, ◌++◌, refl, subst}
use Rattle.std.proofs.lemmas.Bool.{false≢true}
use mathlib.Core.Bool.{true, ◌&&◌}
use lib.Dec.{T, lit<}
use mir.Val.{Val, vptr, vstruct, of_list, has_ty, WT}
use Rattle.std_alloc.proofs.ResultValues.{and_tt}
use base.Logic.{never, fst∗}
use types.Logic.{sem}
use mir.Raw.{raw as bare}
use types.Logic.{Logic}
use seplogic.Ra.Ura.{Ura}
use types.SemTy.{Body as Borrowed}
use base.Fml.{Lft, GName, Share, fsep, flft, fobs, fauth, fbor, fobor}
use base.Fraction.{full_share}
use denote.Memory.{cell_at, part_at, mem}
use denote.Steps.{opens}
use types.Kit.{Soaks, Item, Goal, Seq, Step, step, ‵, ◌$◌, move, drop, fsplit, fjoin, fpick, fpack, feq_i, feq_l, rewrite}
use denote.RattleType.{Valss}
use denote.Builtin.{RawPtr}
use denote.Memory.{lone}
use denote.RawPtr.{Ptr, block_ptr, null_ptr, ptr_val, in_a_block}
use denote.Steps.{nothing}
use denote.Param.{layout}
use denote.Struct.Struct.{within}
use denote.Struct.Owning.{shape}
use Rattle.core.proofs.alloc.Calls.{handle_tells}
use Rattle.core.proofs.cell.Inside.{Good}
use Rattle.std_alloc.specs.Box.Ownership.{box_owns}
use Rattle.std.specs.declared.alloc.Global.{Global}
use Rattle.std.specs.Prelude.{IsSome}
use Rattle.std.specs.declared.option.Option.{Option}
use Rattle.std.specs.declared.option.Option.TheVariants.{None, Some}
use Rattle.std.specs.contracts.alloc.Global.{the_row as Z, the_field as ZF}
use Rattle.std.proofs.alloc.Global.TheLaws.{the_row_laws as LZ}
use Rattle.std.specs.contracts.impls.GlobalAllocator.TheImpl.{ghosts}
use Rattle.chromesquid_c.specs.declared.held_stream.HeldStream.{HeldStream}
use Rattle.chromesquid_c.specs.Streaming.{PushedStream}
use Rattle.chromesquid_c.specs.contracts.pushed.Pushed.{the_row as R}
use Rattle.chromesquid_c.specs.contracts.held_stream.HeldStream.{the_row as H, the_type}
use Rattle.chromesquid_c.proofs.Values.{both, al}

pub some_of : {X : Type 0} (v : Option X) → IsSome v → (x : X) × (v ≡ Some x)
some_of None is = absurd (false≢true is)
some_of (Some x) is = (x, refl)

pub null_good : (h : Val) → Good (layout Z) h → T (has_ty (layout Z) h && true) × WT (both (ptr_val null_ptr) h)
null_good h fits = (and_tt (has_ty (layout Z) h) fits.0, (record { fits = lit< tt }, (fits.1, tt)))

module _ {M : Type 1} {𝓤 : Ura M} {𝓛 : Logic 𝓤} {K : Type 0} {Γ : List (Item 𝓤)} {G : Goal 𝓤 𝓛.H} where
  pub held_out : K → (d : HeldStream) (x : PushedStream) → d.value ≡ Some x → (vs : List Val)
      → ((b o : ℕ) (h : Val) → d.at ≡ block_ptr b o → vs ≡ both (vptr b o) h ∷ [] → Good (layout Z) h → Seq K 𝓛 (‵ (box_owns (ghosts.dealloc_token d.alloc) R (block_ptr b o) x) ∷ ‵ (Z.own_val d.alloc (h ∷ [])) ∷ Γ) G)
      → Seq K 𝓛 (‵ (H.own_val d vs) ∷ Γ) G
  held_out t d x full vs k =
      fsplit t $ fpick t (λ vss. fsplit t $ feq_l t (λ ev. fsplit t $ feq_l t (λ ep. fsplit t $ handle_tells (al R Z LZ ghosts) t d.alloc vss.1.0 (λ h ea fits. move t (1 ∷ []) $ drop t $ move t (1 ∷ []) $
      rewrite t 0 (λ v. ‵ (Rattle.chromesquid_c.specs.Owned.if_some (box_owns (ghosts.dealloc_token d.alloc) R d.at) v)) full refl $
      in_a_block t d.at (λ p. box_owns (ghosts.dealloc_token d.alloc) R p x) (fst∗ 𝓤 (never 𝓤) (sem 𝓛 (ghosts.dealloc_token d.alloc (bare (lone R.mir)) null_ptr))) (λ b o e. k b o h e
      (subst (λ (p : Ptr). vs ≡ vstruct (of_list (ptr_val p ∷ h ∷ [])) ∷ []) e
      (subst (λ (ws : List Val). vs ≡ vstruct (of_list (ptr_val d.at ∷ (ws ++ []))) ∷ []) ea (subst (λ (ps : List Val). vs ≡ vstruct (of_list (ps ++ (vss.1.0 ++ []))) ∷ []) ep ev))) fits)))))

  pub held_in : K → (b o : ℕ) (h : Val) (a : Global) (x : PushedStream)
      → Step K 𝓛 (‵ (H.own_val (record { at = block_ptr b o; alloc = a; value = Some x }) (both (vptr b o) h ∷ [])) ∷ Γ) G (‵ (box_owns (ghosts.dealloc_token a) R (block_ptr b o) x) ∷ ‵ (Z.own_val a (h ∷ [])) ∷ Γ) G
  held_in t b o h a x = step (λ s. let v : Val = both (vptr b o) h in
      nothing t $ move t (2 ∷ 0 ∷ []) $ fjoin t $ feq_i t (List Val) (vptr b o ∷ []) (vptr b o ∷ []) refl $ fjoin t $ feq_i t (List Val) (v ∷ []) (v ∷ []) refl $ fjoin t $
      fpack t (Valss (RawPtr ∷ ZF.row ∷ [])) (within (shape the_type) (block_ptr b o, (ZF.into a, tt)) (v ∷ [])) (vptr b o ∷ [], (h ∷ [], tt)) $ fjoin t $ s)

  pub none_in : K → (h : Val) (a : Global)
      → Step K 𝓛 (‵ (H.own_val (record { at = null_ptr; alloc = a; value = None }) (both (ptr_val null_ptr) h ∷ [])) ∷ Γ) G (‵ (Z.own_val a (h ∷ [])) ∷ Γ) G
  none_in t h a = step (λ s. let v : Val = both (ptr_val null_ptr) h in
      nothing t $ nothing t $ move t (2 ∷ 0 ∷ []) $ fjoin t $ feq_i t (List Val) (ptr_val null_ptr ∷ []) (ptr_val null_ptr ∷ []) refl $ fjoin t $ feq_i t (List Val) (v ∷ []) (v ∷ []) refl $ fjoin t $
      fpack t (Valss (RawPtr ∷ ZF.row ∷ [])) (within (shape the_type) (null_ptr, (ZF.into a, tt)) (v ∷ [])) (ptr_val null_ptr ∷ [], (h ∷ [], tt)) $ fjoin t $ s)

module _ {M : Type 1} {𝓤 : Ura M} {𝓛 : Logic 𝓤} {K : Type 0} {Γ : List (Item 𝓤)} {G : Goal 𝓤 𝓛.H} where
  -- behind a `&mut`: [the value; the right to its block, with the handle; the word; the open borrow; obs; auth]
  pub held_opens : K → Soaks G → {κ : Lft} {q : Share} {γ : GName} (d : HeldStream) (x : PushedStream) → d.value ≡ Some x → (rb ro : ℕ)
      → ((b o : ℕ) (h : Val) → d.at ≡ block_ptr b o → Seq K 𝓛 (‵ (part_at R full_share x b o) ∷ ‵ (fsep (ghosts.dealloc_token d.alloc (bare (lone R.mir)) (block_ptr b o)) (Z.own_val d.alloc (h ∷ []))) ∷ ‵ (cell_at full_share H.mir (both (vptr b o) h ∷ []) rb ro)
      ∷ ‵ (fobor κ q (Borrowed (mem H) rb ro γ)) ∷ ‵ (fobs γ (H.coded.code d)) ∷ ‵ (fauth γ (H.coded.code d)) ∷ Γ) G)
      → Seq K 𝓛 (‵ (fobs γ (H.coded.code d)) ∷ ‵ (fbor κ (Borrowed (mem H) rb ro γ)) ∷ ‵ (flft κ q) ∷ Γ) G
  held_opens t z d x full rb ro k =
      opens t z H {h = d} rb ro (λ vs. move t (1 ∷ []) $ held_out t d x full vs (λ b o h e ws fits. fsplit t $ move t (1 ∷ 2 ∷ []) $ fjoin t $ move t (1 ∷ []) $
      rewrite t 2 (λ (us : List Val). ‵ (cell_at full_share H.mir us rb ro)) ws refl $ k b o h e))
