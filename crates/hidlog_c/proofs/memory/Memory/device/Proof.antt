-- `device` lends the device in the caller's memory: a walk over a raw pointer.
use Rattle.std.proofs.Common.{◌≢◌, Option, Some, None, ◌≡◌, ℕ, List, [], ◌∷◌, refl, sym, ap, ◌∙◌}
use Rattle.std.proofs.{raw_atomic.Walks.proved, VecSteps.Shapes.after}
use seplogic.Ra.Ura.{Ura}
use base.Fraction.{full_share}
use base.Logic.{ent, sep, id⊢}
use base.Fml.{Fml, GName, ftrue, flft, fsep}
use mir.Syntax.{named}
use mir.Val.{Val, vptr}
use contract.Monad.{fact}
use contract.Running.{tables}
use types.Logic.{Logic, sem}
use types.Kit.{‵, raw, ◌⊛◌, some, later, at_ret, ◌$◌, ◌∵◌, !, qed, by, move, keep, use1, split, join, fsplit, fsplit3, fjoin, fpack, pick, await, rewrite, suffices, frame, group, done}
use types.Part.{whole, sub, look_in}
use types.Run.{enter, of_opd, addr, load, stop, fld, first, blocks, exec, returns}
use types.ByLocal.{alloc_all, pass_all, free_all, look_at, get, through, sets, sets_last, env}
use denote.Exit.{no}
use denote.Follow.{follows, Part, lends_Part}
use denote.Laws.{shows}
use denote.Memory.{cell_at, mem, part_at, part_of}
use denote.RawPtr.{Ptr, block_ptr, in_a_block}
use denote.Ref.{MutRef, mut_vals, mut_Tells}
use denote.Signature.{plain, mut_ref_to}
use denote.Steps.{nothing, opens, peeks, heard}
use denote.Struct.Owning.{shape}
use denote.Struct.Struct.{Struct}
use denote.Triple.Walked.{Stays, walk_of, says, stay_dropped, Goes-spent_ref, ends_at}
use Rattle.hidlog_c.specs.{Key.DeviceState, contracts.device.Device.the_row as S, Owned.holds, Lending.with_device}
use Rattle.hidlog_c.specs.declared.memory.Memory.{Memory}
use Rattle.hidlog_c.specs.contracts.memory.Memory.{the_row as R, the_type}
use Rattle.hidlog_c.proofs.memory.Memory.{device.Statement.statement, TheLaws.lowers}
use Rattle.hidlog_c.specs.contracts.memory.Memory.device as f
use Rattle.hidlog_c.proofs.memory.Memory.device.Code as code

abbrev stayed : Stays f.ended.signature.params f.ended.kept
stayed = (stay_dropped (mut_ref_to (0 ∷ []) tt (plain (λ _. R))) no, tt)

-- what is there where something is
there : (o : Option DeviceState) → o ≢ None → (d : DeviceState) × (o ≡ Some d)
there None h = absurd (h refl)
there (Some d) h = (d, refl)

-- all of the memory's struct but what it points to
abbrev Rest : Memory → List Val → ℕ → ℕ → Fml
Rest k us b o = fsep ((Struct (shape the_type)).own_val (k.at, tt) us) (cell_at full_share R.mir us b o)

-- with a device in any state there, it is the memory with that device
back : {M : Type 1} {𝓤 : Ura M} (𝓛 : Logic 𝓤) (k : Memory) (us : List Val) (rb ro b o : ℕ) → k.at ≡ block_ptr b o
    → (s : DeviceState) → ent 𝓤 (sep 𝓤 (sem 𝓛 ((mem S).own_at s b o)) (sem 𝓛 (Rest k us rb ro)))
    (sem 𝓛 ((mem R).own_at (with_device k s) rb ro))
unfolding part_of
back {𝓤 = 𝓤} 𝓛 k us rb ro b o e s =
    qed 𝓛 (‵ (part_at S full_share s b o) ∷ ‵ (Rest k us rb ro) ∷ []) ∵
    use1 𝓛 (‵ (holds (block_ptr b o) (Some s))) (id⊢ 𝓤 _) $ rewrite ! 0 (λ (p : Ptr). ‵ (holds p (Some s)))
    (sym e) refl $
    move ! (1 ∷ []) $ fsplit ! $ move ! (0 ∷ 2 ∷ []) $ fjoin ! $ move ! (1 ∷ 0 ∷ []) $ fjoin ! $
    fpack ! (List Val) (λ ws. fsep (cell_at full_share R.mir ws rb ro) (R.own_val (with_device k s) ws)) us $ done !

pub device_spec : {M : Type 1} → statement M
device_spec 𝓤 𝓛 𝓜 𝓡 wired =
    let c = f.clauses 𝓛 𝓜.mem 𝓡.returns in let W = walk_of 𝓛 f.ended stayed c in let 𝓣 = tables 𝓤 𝓛.H 𝓜 𝓡 𝓡.env in
    proved 𝓛 f.ended stayed c 𝓜 𝓡 (Goes-spent_ref 𝓛 1 (0 ∷ []) tt (plain (λ _. R)), tt)
    f.Key.name code.function (code.unfolded 𝓤 𝓛.H 𝓜 𝓡 wired)
    (λ κs. (mut_vals, tt)) (λ κs. (mut_Tells (named 0) κs.0 R, tt)) (λ κs qs bounds a _ are.
    let rb = a.0.ref_ptr.0 in let ro = a.0.ref_ptr.1 in let k = a.0.now in let γ = a.0.ghost_name in let vs =
    mut_vals a.0 in
    let y : W.Ghost = ((κs, qs, bounds, a, (vs, tt)), tt) in
    let exits : (d : DeviceState) → k.device ≡ Some d → (b o : ℕ) (δ : GName)
    → ent 𝓤
    (sep 𝓤
    (sem 𝓛 ((MutRef (named 0) κs.0 S).own_val (record { ref_ptr = (b, o); ghost_name = δ; now = d }) (vptr b o ∷ [])))
    (sep 𝓤 (𝓛.A.lft κs.0 qs.0) (sem 𝓛 (follows R S γ δ (with_device k))))) (W.post y (vptr b o)) = λ d is_there b o δ.
    qed 𝓛
    (‵ ((MutRef (named 0) κs.0 S).own_val (record { ref_ptr = (b, o); ghost_name = δ; now = d }) (vptr b o ∷ []))
    ∷ ‵ (flft κs.0 qs.0) ∷ ‵ (follows R S γ δ (with_device k)) ∷ []) ∵
    suffices ! _
    (ends_at 𝓛 f.ended stayed c y (vptr b o) (record { ref_ptr = (b, o); ghost_name = δ; now = d }) (tt, tt)
    (tt, tt)) $
    nothing ! $ nothing ! $ fjoin ! $ join ! $ nothing ! $ move ! (2 ∷ 0 ∷ []) $ join ! $ join ! $ frame ! $ says !
    is_there $ done ! in
    qed 𝓛
    (((‵ (flft κs.0 qs.0) ⊛ ‵ ftrue) ⊛ ‵ ((MutRef (named 0) κs.0 R).own_val a.0 vs) ⊛ ‵ ftrue) ∷ raw
    (fact 𝓤 (k.device ≢ None)) ∷ []) ∵
    split ! $ split ! $ move ! (2 ∷ []) $ split ! $ move ! (4 ∷ []) $ heard ! _
    (λ h. let d = (there k.device h).0 in let is_there = (there k.device h).1 in keep ! (0 ∷ 2 ∷ []) $
    enter ! _ _ _ _ _ $ alloc_all ! (λ l. pass_all ! refl ((tt, tt), tt) $
    fsplit3 ! $ move ! (1 ∷ 2 ∷ 3 ∷ []) $ opens ! tt R rb ro (λ us.
    move ! (1 ∷ []) $ peeks ! R _ (shows 𝓛 R) k us (λ is. fsplit ! $ move ! (1 ∷ []) $
    rewrite ! 0 (λ (x : Option DeviceState). ‵ (holds k.at x)) is_there refl $
    in_a_block ! k.at (λ p. holds p (Some d)) (id⊢ 𝓤 _) (λ b o e.
    let word = lowers.val_is k us is ∙ ap (λ (p : Ptr). lowers.lowered (record k { at = p }) ∷ []) e in
    let Cell = λ (ws : List Val). ‵ (cell_at full_share R.mir ws rb ro) in
    rewrite ! 2 Cell word refl $
    -- [the session; what the fields own; the key's cell; the open borrow, in three entries]
    first ! $ blocks ! $
    sets ! (of_opd ! (load ! (through ! refl (fld ! refl (stop !))) (look_in ! 2 (sub ! 0 refl (whole !))))) refl
    (tt, tt) $
    sets ! (of_opd ! (get ! refl)) refl (tt, tt) $
    sets_last ! (addr ! (through ! refl (stop !))) refl (tt, tt) $
    exec ! 𝓣.C 𝓣.Λ (env code.Mir.locals l) (after 1 (code.function).body) (at_ret _ (W.post y)) $
    sets ! (of_opd ! (get ! refl)) refl (tt, tt) $
    rewrite ! 2 Cell (sym word) refl $
    move ! (1 ∷ 2 ∷ []) $ fjoin ! $ move ! (2 ∷ 3 ∷ 4 ∷ 1 ∷ 0 ∷ []) $ group ! 5 $
    use1 𝓛
    (later
    (some
    (λ (δ : GName). raw
    (Part 𝓛 R S (with_device k) (named 0) κs.0 qs.0 rb ro b o γ (sem 𝓛 (Rest k us rb ro)) (back 𝓛 k us rb ro b o e)
    d δ))))
    (lends_Part 𝓛 R S (with_device k) (named 0) κs.0 qs.0 rb ro b o γ (sem 𝓛 (Rest k us rb ro))
    (back 𝓛 k us rb ro b o e) (R.coded.code k) (R.coded.code k) d) $ await ! tt $ pick ! (λ δ.
    returns ! (look_at ! 0 refl) $ free_all ! refl $ keep ! (0 ∷ []) $ by ! (exits d is_there b o δ))))))))
