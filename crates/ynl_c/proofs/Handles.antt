-- The machine values of a handle. Assumes `Logic`.
use Rattle.std.proofs.Common.{◌≡◌, ℕ, List, [], ◌∷◌, ◌++◌, refl, subst}
use seplogic.Ra.Ura.{Ura}
use mir.Syntax.{Ty}
use mir.Raw.{raw as bare}
use mir.Val.{Val, vptr, vstruct, of_list}
use base.Logic.{ent, guard, guard_i, never, via, fst∗, snd∗}
use base.Fml.{Fml}
use types.Logic.{Logic, sem}
use types.Kit.{Item, Goal, Seq, Step, step, ‵, given, ◌$◌, move, drop, use1, fsplit, fjoin, fpick, fpack, learn, feq_i, feq_l}
use contract.Monad.{fact_use}
use denote.RattleType.{RattleType, Valss}
use denote.Builtin.{RawPtr}
use denote.Memory.{lone}
use denote.RawPtr.{Ptr, block_ptr, null_ptr, ptr_val, in_a_block, Testable}
use denote.Steps.{nothing}
use denote.Param.{layout}
use denote.Param.Laws.{Laws}
use denote.Struct.Struct.{within}
use denote.Struct.Owning.{shape}
use Rattle.std.proofs.alloc.Calls.{handle_tells}
use Rattle.std.proofs.cell.Inside.{Good}
use Rattle.std.proofs.GlobalToken.{dealloc_token-Testable}
use Rattle.std.specs.Box.Ownership.{box_owns}
use Rattle.std.specs.Ptr.{points_to}
use Rattle.std.specs.declared.alloc.Global.{Global}
use Rattle.std.specs.declared.option.Option.{Option}
use Rattle.std.specs.declared.option.Option.TheVariants.{None, Some}
use Rattle.std.specs.contracts.alloc.Global as heap
use Rattle.std.proofs.alloc.Global.TheLaws as heap_laws
use Rattle.std.specs.contracts.impls.GlobalAllocator.TheImpl.{ghosts}
use Rattle.ynl_c.specs.Held.{held}
use Rattle.ynl_c.specs.contracts.desk.desk.Desk as desk
use Rattle.ynl_c.specs.contracts.handle.Handle as handle
use Rattle.ynl_c.proofs.Values.{al, both, Loose}

abbrev pub D : RattleType
D = desk.the_row

abbrev pub Z : RattleType
Z = heap.the_row

abbrev pub LZ : Laws Z
LZ = heap_laws.the_row_laws

abbrev pub Lo : RattleType
Lo = Loose D Z LZ ghosts

abbrev pub Ha : RattleType
Ha = handle.the_row

abbrev pub tok : Global → Ty → Ptr → Fml
tok a = ghosts.dealloc_token a

module _ {M : Type 1} {𝓤 : Ura M} (𝓛 : Logic 𝓤) where
  pub tested : (a : Global) (p : Ptr) (x : D.Denot) → ent 𝓤 (sem 𝓛 (box_owns (tok a) D p x)) (guard 𝓤 (Testable p) (sem 𝓛 (box_owns (tok a) D p x)))
  tested a p x = fact_use 𝓤 (Testable p) (via 𝓤 _ (snd∗ 𝓤 (sem 𝓛 (points_to D p x)) (sem 𝓛 (tok a (bare (lone D.mir)) p))) (dealloc_token-Testable 𝓛 a (bare (lone D.mir)) p)) (guard_i 𝓤 (Testable p) (sem 𝓛 (box_owns (tok a) D p x)))

module _ {M : Type 1} {𝓤 : Ura M} {𝓛 : Logic 𝓤} {K : Type 0} {Γ : List (Item 𝓤)} {G : Goal 𝓤 𝓛.H} where
  pub parts : K → (d : Ha.Denot) (vs : List Val)
      → ((h : Val) → vs ≡ both (ptr_val d.at) h ∷ [] → Good (layout Z) h → Seq K 𝓛 (‵ (held (tok d.alloc) D d.at d.value) ∷ ‵ (Z.own_val d.alloc (h ∷ [])) ∷ Γ) G)
      → Seq K 𝓛 (‵ (Ha.own_val d vs) ∷ Γ) G
  parts t d vs k =
      fsplit t $ fpick t (λ vss. fsplit t $ feq_l t (λ ev. fsplit t $ feq_l t (λ ep. fsplit t $ handle_tells (al D Z LZ ghosts) t d.alloc vss.1.0 (λ h ea fits. move t (1 ∷ []) $ drop t $ move t (1 ∷ []) $
      k h (subst (λ (ws : List Val). vs ≡ vstruct (of_list (ptr_val d.at ∷ (ws ++ []))) ∷ []) ea (subst (λ (ps : List Val). vs ≡ vstruct (of_list (ps ++ (vss.1.0 ++ []))) ∷ []) ep ev)) fits))))

  pub opened : K → (a : Global) (x : Option D.Denot) (p : Ptr) → (x ≡ None → p ≡ null_ptr → Seq K 𝓛 Γ G)
      → ((b o : ℕ) (y : D.Denot) → x ≡ Some y → p ≡ block_ptr b o → Testable (block_ptr b o) → Seq K 𝓛 (‵ (box_owns (tok a) D (block_ptr b o) y) ∷ Γ) G)
      → Seq K 𝓛 (‵ (held (tok a) D p x) ∷ Γ) G
  unfolding held
  opened t a None p none one = feq_l t (λ e. none refl e)
  opened t a (Some y) p none one = in_a_block t p (λ (q : Ptr). box_owns (tok a) D q y) (fst∗ 𝓤 (never 𝓤) (sem 𝓛 (tok a (bare (lone D.mir)) null_ptr))) (λ b o e.
      use1 𝓛 (given (Testable (block_ptr b o)) (‵ (box_owns (tok a) D (block_ptr b o) y))) (tested 𝓛 a (block_ptr b o) y) $ learn t (λ s. one b o y refl e s))

  pub handle_in : K → (b o : ℕ) (h : Val) (a : Global) (x : D.Denot)
      → Step K 𝓛 (‵ (Ha.own_val (record { at = block_ptr b o; alloc = a; value = Some x }) (both (vptr b o) h ∷ [])) ∷ Γ) G (‵ (box_owns (tok a) D (block_ptr b o) x) ∷ ‵ (Z.own_val a (h ∷ [])) ∷ Γ) G
  unfolding held
  handle_in t b o h a x = step (λ s. let v : Val = both (vptr b o) h in
      nothing t $ move t (2 ∷ 0 ∷ []) $ fjoin t $ feq_i t (List Val) (vptr b o ∷ []) (vptr b o ∷ []) refl $ fjoin t $ feq_i t (List Val) (v ∷ []) (v ∷ []) refl $ fjoin t $
      fpack t (Valss (RawPtr ∷ (heap.the_field).row ∷ [])) (within (shape handle.the_type) (block_ptr b o, ((heap.the_field).into a, tt)) (v ∷ [])) (vptr b o ∷ [], (h ∷ [], tt)) $ fjoin t $ s)

  pub closed_in : K → (h : Val) (a : Global)
      → Step K 𝓛 (‵ (Ha.own_val (record { at = null_ptr; alloc = a; value = None }) (both (ptr_val null_ptr) h ∷ [])) ∷ Γ) G (‵ (Z.own_val a (h ∷ [])) ∷ Γ) G
  unfolding held
  closed_in t h a = step (λ s. let v : Val = both (ptr_val null_ptr) h in
      feq_i t Ptr null_ptr null_ptr refl $ nothing t $ move t (2 ∷ 0 ∷ []) $ fjoin t $ feq_i t (List Val) (ptr_val null_ptr ∷ []) (ptr_val null_ptr ∷ []) refl $ fjoin t $ feq_i t (List Val) (v ∷ []) (v ∷ []) refl $ fjoin t $
      fpack t (Valss (RawPtr ∷ (heap.the_field).row ∷ [])) (within (shape handle.the_type) (null_ptr, ((heap.the_field).into a, tt)) (v ∷ [])) (ptr_val null_ptr ∷ [], (h ∷ [], tt)) $ fjoin t $ s)
