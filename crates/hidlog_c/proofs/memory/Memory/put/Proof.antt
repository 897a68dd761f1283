-- `put` writes a device into the caller's memory: a walk over a raw pointer.
use Rattle.std.proofs.Common.{◌≡◌, List, [], ◌∷◌, Option, Some, None, refl, sym, ap, ◌∙◌, subst}
use Rattle.std.proofs.{raw_atomic.Walks.proved_at, VecSteps.Shapes.after}
use base.Fraction.{full_share}
use base.Logic.{ent, id⊢}
use base.Fml.{ftrue, flft}
use lib.Dec.{T}
use mir.Syntax.{named}
use mir.Val.{Val, vptr, vunit, has_ty, WT}
use prog.Wp.{WpFn}
use contract.Monad.{fact}
use contract.Running.{tables}
use types.Kit.{‵, raw, ◌⊛◌, at_ret, ◌$◌, ◌∵◌, !, qed, move, keep, use1, use2, split, join, fsplit, fsplit3, fjoin, feq_i, rewrite, suffices, frame, group, done}
use types.Part.{whole, sub, look_in}
use types.Run.{enter, of_opd, unit_lit, load, init, stop, fld, first, blocks, exec, returns, assigns_last}
use types.ByLocal.{alloc_all, pass_all, free_all, look_at, get, through, sets, env}
use denote.Laws.{Typed}
use borrow.Table.OneValue.{part_in}
use denote.Exit.{yes}
use denote.Laws.{shows}
use denote.Memory.{cell_at, part_at, lone}
use denote.RawPtr.{Ptr, block_ptr, room_at, in_a_block}
use denote.Ref.{MutRef}
use denote.Signature.{plain}
use denote.Steps.{nothing, opens, closes, peeks, heard}
use denote.Triple.Walked.{Stays, walk_of, says, stay_ref, stay_dropped, Goes-ref, Goes-dropped, ends_at}
use Rattle.hidlog_c.specs.{Key.DeviceState, Owned.holds}
use Rattle.hidlog_c.specs.contracts.{device.Device.the_row as S, memory.Memory.the_row as R}
use Rattle.hidlog_c.proofs.memory.Memory.{put.Statement.statement, TheLaws.lowers}
use Rattle.hidlog_c.proofs.device.Device.TheLaws as device
use Rattle.hidlog_c.specs.contracts.memory.Memory.put as f
use Rattle.hidlog_c.proofs.memory.Memory.put.Code as code

abbrev stayed : Stays f.ended.signature.params f.ended.kept
stayed = (stay_ref (0 ∷ []) tt (plain (λ _. R)), (stay_dropped (plain (λ _. S)) yes, tt))

-- what is typed at one type is one value
one_of : (P : List Val → Type 1) (vs : List Val) → Typed (lone S.mir ∷ []) vs
    → ((v : Val) → T (has_ty (lone S.mir) v) × WT v → P (v ∷ [])) → P vs
one_of P [] t k = absurd t
one_of P (v ∷ []) t k = k v t.0
one_of P (v ∷ w ∷ vs) t k = absurd t.1

pub put_spec : {M : Type 1} → statement M
put_spec 𝓤 𝓛 𝓜 𝓡 wired =
    let c = f.clauses 𝓛 𝓜.mem 𝓡.returns in let W = walk_of 𝓛 f.ended stayed c in let 𝓣 = tables 𝓤 𝓛.H 𝓜 𝓡 𝓡.env in
    proved_at 𝓛 f.ended stayed c 𝓜 𝓡
    (Goes-ref 𝓛 1 0 tt (plain (λ _. R)), (Goes-dropped 𝓛 1 (plain (λ _. S)) yes (λ κs x g. refl), tt))
    f.Key.name code.function (code.unfolded 𝓤 𝓛.H 𝓜 𝓡 wired) (λ z are.
    let κ = z.0.0.0 in let q = z.0.1.0 in let a = z.0.3 in let s = a.1.0 in
    let rb = a.0.ref_ptr.0 in let ro = a.0.ref_ptr.1 in let k = a.0.now in
    let Y : List Val → List Val → W.Ghost = λ us vs. ((z.0.0, z.0.1, z.0.2, a, (us, (vs, tt))), tt) in
    let Goal : List Val → List Val → Type 1 =
    λ us vs. ent 𝓤 (W.pre (Y us vs)) (WpFn 𝓤 𝓛.H 𝓣.C 𝓣.Λ code.function (W.args (Y us vs)) (W.post (Y us vs))) in
    let walk : (v : Val) → T (has_ty (lone S.mir) v) × WT v → Goal (vptr rb ro ∷ []) (v ∷ []) = λ v good.
    let y = Y (vptr rb ro ∷ []) (v ∷ []) in
    qed 𝓛
    (((‵ (flft κ q) ⊛ ‵ ftrue) ⊛ ‵ ((MutRef (named 0) κ R).own_val a.0 (vptr rb ro ∷ [])) ⊛ ‵ (S.own_val s (v ∷ []))
    ⊛ ‵ ftrue) ∷ raw (fact 𝓤 (k.device ≡ None)) ∷ []) ∵
    split ! $ split ! $ move ! (2 ∷ []) $ split ! $ move ! (1 ∷ []) $ split ! $ move ! (5 ∷ []) $ heard ! _
    (λ empty. keep ! (2 ∷ 3 ∷ 0 ∷ []) $
    -- [the reference; its token; what the session owns]
    enter ! _ _ _ _ _ $ alloc_all ! (λ l. pass_all ! refl ((tt, tt), (good, tt)) $
    fsplit3 ! $ move ! (1 ∷ 2 ∷ 3 ∷ []) $ opens ! tt R rb ro (λ us.
    move ! (1 ∷ []) $ peeks ! R _ (shows 𝓛 R) k us (λ is. fsplit ! $ move ! (1 ∷ []) $
    rewrite ! 0 (λ (x : Option DeviceState). ‵ (holds k.at x)) empty refl $
    in_a_block ! k.at (λ p. room_at S p) (id⊢ 𝓤 _) (λ b o e.
    let word = lowers.val_is k us is ∙ ap (λ (p : Ptr). lowers.lowered (record k { at = p }) ∷ []) e in
    let Cell = λ (ws : List Val). ‵ (cell_at full_share R.mir ws rb ro) in
    rewrite ! 2 Cell word refl $
    -- [the room; what the fields own; the struct's cell; the open borrow, in three entries; self's first part; what the
    -- session owns]
    first ! $ blocks ! $
    sets ! (of_opd ! (load ! (through ! refl (fld ! refl (stop !))) (look_in ! 2 (sub ! 0 refl (whole !))))) refl
    (tt, tt) $
    sets ! (of_opd ! (get ! refl)) refl (tt, tt) $
    assigns_last ! (of_opd ! (get ! refl)) (through ! refl (stop !)) (init ! 0 refl good) $
    exec ! 𝓣.C 𝓣.Λ (env code.Mir.locals l) (after 1 (code.function).body) (at_ret _ (W.post y)) $
    sets ! (of_opd ! (unit_lit !)) refl (tt, tt) $
    move ! (0 ∷ 7 ∷ []) $ use2 𝓛 (‵ (part_at S full_share s b o)) (part_in 𝓛 S refl full_share s b o v) $
    use1 𝓛 (‵ (holds (block_ptr b o) (Some s))) (id⊢ 𝓤 _) $ rewrite ! 0 (λ (p : Ptr). ‵ (holds p (Some s)))
    (sym e) refl $ rewrite ! 2 Cell (sym word) refl $
    move ! (1 ∷ []) $ fjoin ! $ move ! (1 ∷ []) $ closes ! tt R (record k { device = Some s }) us rb ro $
    returns ! (look_at ! 0 refl) $ free_all ! refl $ move ! (3 ∷ []) $
    suffices ! _ (ends_at 𝓛 f.ended stayed c y vunit tt (record k { device = Some s }, (tt, tt)) (tt, (tt, tt))) $ says
    ! refl $
    group ! 3 $ nothing ! $ nothing ! $ join ! $ move ! (1 ∷ 0 ∷ []) $ join ! $ nothing ! $ move ! (2 ∷ 0 ∷ []) $ join !
    $ frame ! $ frame ! $
    feq_i ! _ (vunit ∷ []) _ refl $ done !))))) in
    one_of (λ (vs : List Val). Goal z.0.4.0 vs) z.0.4.1.0 ((device.the_field_loose.lawful 𝓛).typed s z.0.4.1.0 are.1.0)
    (λ v good. subst (λ (us : List Val). Goal us (v ∷ [])) (sym are.0.0) (walk v good)))
