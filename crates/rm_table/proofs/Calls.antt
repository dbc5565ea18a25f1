-- What each step of a section asks of the table, in the words of `atomic_table`.
use Rattle.std.proofs.Common.{◌≡◌, ℕ, ◌+◌, ◌-◌, ◌*◌, ◌%◌, ◌^◌, ◌<◌, ◌≤◌, ◌⊎◌, inl, inr, true, Some, None, refl, sym, ◌∙◌, ap, arith, subst, ⊎_elim, eq-eqb, ne_eqb}
use Rattle.std.specs.Prelude.{slice_index, ◌==◌}
use mathlib.Core.Option as at
use Rattle.atomic_table.specs.Table.{step, stepped, Allows, Act, Valid, carried_after, keeps, takes, gives, rest}
use Rattle.rm_core.specs.declared.processor_state.Phase.{Phase}
use Rattle.rm_core.specs.declared.processor_state.Phase.TheVariants.{Out, Raised, In}
use Rattle.rm_core.specs.declared.processor_state.Token.{Token}
use Rattle.rm_core.specs.declared.processor_state.Token.TheVariants.{Held, Revoked}
use Rattle.rm_table.specs.declared.view.Role.TheVariants.{Processor}
use Rattle.rm_table.specs.declared.padded_slot.Slot.{Slot}
use Rattle.rm_table.specs.declared.padded_slot.Slot.TheVariants.{Edition}
use Rattle.rm_table.specs.declared.part.Part.{Part}
use Rattle.rm_table.specs.declared.view.View.{View}
use Rattle.rm_table.specs.Layout.{tracker_index, token_index, tracker_word, token_word}
use Rattle.rm_table.specs.Meanings.{Meanings}
use Rattle.rm_table.specs.Rule.{WholeState, core_of, Current, Live, Shows, Whole}
use Rattle.rm_table.specs.Moves.{Hand, with_step, raised_view, begun_part, lowered_view, left_part, hand_left, refused_view, refused_part, entered_view, entered_part, regained_view, regained_part, SeenUpTo, SeenAs, HasEdition}
use Rattle.rm_core.specs.declared.event.Event.TheVariants.{Check}
use Rattle.rm_core.specs.CoreState.{MayCome, after}
use Rattle.rm_table.specs.Laws.{RaiseLaw, CheckLaw, LowerLaw, RegainLaw}
use Rattle.rm_table.specs.Plays.{Seated, TellsRaise, TellsCheck, TellsLower, TellsRegain}
use Rattle.fw_base.proofs.Logic.{match_true, match_false}
use Rattle.rm_table.proofs.Base.{there, is_there}
use Rattle.rm_table.proofs.Own.{own_core, processor_live, seen_published, seen_as_published}
use Rattle.rm_table.proofs.Slots.{at_home}
use Rattle.rm_table.proofs.Sections.{raise_event, check_held_event, check_refused_event, lower_event, regain_event, regain_may, raise_shows, check_held_shows, check_refused_shows, held_not_drained, lower_raised_shows, lower_in_shows, regain_shows, number_read_is, refusal_published, same_reading}

-- the words that a tracker goes through
pub raise_word : (sections t : ℕ) (phase : Phase) → phase ≡ Out → tracker_word sections phase ≡ t → t + 1 ≡ tracker_word (sections + 1) Raised
raise_word sections t phase out is =
    let e : (2 * sections) % 2 ^ 64 ≡ t = ap (tracker_word sections) (sym out) ∙ is in omega arith

-- one more than the word of a raised tracker is that of the lowered one
pub lower_word : (sections t : ℕ) (phase : Phase) → (phase ≡ Raised) ⊎ (phase ≡ In) → tracker_word sections phase ≡ t → (t + 1) % 2 ^ 64 ≡ tracker_word sections Out
lower_word sections t phase (inl up) is =
    let e : (2 * sections + (2 ^ 64 - 1)) % 2 ^ 64 ≡ t = ap (tracker_word sections) (sym up) ∙ is in omega arith
lower_word sections t phase (inr inside) is =
    let e : (2 * sections + (2 ^ 64 - 1)) % 2 ^ 64 ≡ t = ap (tracker_word sections) (sym inside) ∙ is in omega arith

module _ {E B T L I : Type 0} (m : Meanings E B T L I) where
  -- a raise is its event in the lock's core
  pub raise_makes : RaiseLaw m
  raise_makes slots id me i x i_is role out is t whole sized is_at fits =
      let v : View E B T L I = me.0 in
      let d : WholeState E B T L I = own_core whole.0 v.place (record (whole.0.state v.place) { phase = Raised }) (begun_part v.part) in (
        with_step (raised_view v) i x,
        keeps,
        tt,
        (
          d,
          subst (λ (k : ℕ). Shows m d (stepped t k x id me.1 (with_step (raised_view v) k x) keeps)) (sym i_is) (raise_shows m whole.0 t id v whole.1 is_at role x me.1 out is),
          (is_there whole.0 (λ q. q.phase ≡ Out) v.place (processor_live m whole.0 t id v whole.1 is_at role).low ((whole.1.each id v is_at).processor role) (sym (processor_live m whole.0 t id v whole.1 is_at role).phase ∙ out), raise_event m whole.0 t id v whole.1 is_at role out),
        ),
        refl,
      )

  -- a check is its event in the lock's core
  pub check_makes : CheckLaw m
  check_makes slots id me i i_is role up t whole sized is_at fits = by_token (whole.0.state me.0.place).token refl
    where
      v : View E B T L I
      v = me.0

      c : WholeState E B T L I
      c = whole.0

      found : ℕ
      found = slice_index t.words i

      live : Live m c id v
      live = processor_live m c t id v whole.1 is_at role

      high : v.place ≤ c.count
      high = (whole.1.each id v is_at).processor role

      may : MayCome (core_of c) (Check v.place)
      may = is_there c (λ q. q.phase ≡ Raised) v.place live.low high (sym live.phase ∙ up)

      seen : (x : ℕ) → x ≡ c.number → SeenUpTo v.part x
      seen x is = subst (SeenUpTo v.part) (sym is) (subst (λ (y : Part E L I). SeenUpTo y c.number) (sym live.part) (seen_published m c t whole.1 v.place live.low high))

      named : (e : E) → m.number e ≡ c.number → m.name e ≡ c.name → SeenAs v.part (m.number e) (m.name e)
      named e number name =
          subst (λ (x : ℕ). SeenAs v.part x (m.name e)) (sym number) (subst (λ (l : L). SeenAs v.part c.number l) (sym name)
          (subst (λ (y : Part E L I). SeenAs y c.number c.name) (sym live.part) (seen_as_published m c t whole.1 v.place live.low high)))

      found_is : found ≡ token_word (c.state v.place).token
      found_is = ap (slice_index t.words) (i_is ∙ ap (λ (n : ℕ). token_index n v.place) live.count) ∙ whole.1.words.tokens v.place live.low high

      by_token : (token : Token) → (c.state v.place).token ≡ token
          → (w : View E B T L I) × (a : Act (Slot E B)) × Valid t.homes me.1 a × ((d : WholeState E B T L I) × Shows m d (stepped t i found id me.1 w a) × (MayCome (core_of c) (Check v.place) × (core_of d ≡ after (core_of c) (Check v.place)))) × TellsCheck m (step slots i 0 0 at.none) me found (w, carried_after me.1 a)
      by_token Held held =
          let zero_found : found ≡ 0 = found_is ∙ ap token_word held in
          let home = at_home m v.place live.low high
          (⊎_elim (λ inside. let was : (c.state v.place).phase ≡ Raised = sym live.phase ∙ up in let clash : Raised ≡ In = sym was ∙ inside in absurd cc)
          (λ drained. held_not_drained m c t whole.1 v.place live.low high held drained))
          whole.1.slots in
          let e : E = home.0 in
          let known : m.number e ≡ v.part.held = home.2.number_is ∙ sym (ap (λ (y : Part E L I). y.held) live.part ∙ whole.1.numbers.held v.place (c.state v.place) (there c v.place live.low high) held) in (
            with_step (entered_view m v e) i found,
            takes v.place (Edition (Some e)),
            home.1,
            (own_core c v.place (record (c.state v.place) { phase = In }) (entered_part m v.part e), check_held_shows m c t id v whole.1 is_at role i me.1 e up held home.1 home.2, (may, check_held_event m c t id v whole.1 is_at role (entered_part m v.part e) held)),
            match_true _ _ (found == 0) (eq-eqb found 0 zero_found) (e, refl, known, seen (m.number e) home.2.number_is, named e home.2.number_is home.2.name_is),
          )
      by_token (Revoked s) revoked =
          let is : found ≡ s = found_is ∙ ap token_word revoked in
          let token : (c.state v.place).token ≡ Revoked found = revoked ∙ ap (λ (n : ℕ). Revoked n) (sym is) in
          let below : v.part.held < found = let e : v.part.held ≡ (c.part v.place).held = ap (λ (y : Part E L I). y.held) live.part in let h = whole.1.numbers.revoked v.place (c.state v.place) (there c v.place live.low high) found token in omega arith in (
            with_step (refused_view v found) i found,
            keeps,
            tt,
            (own_core c v.place (c.state v.place) (refused_part v.part found), check_refused_shows m c t id v whole.1 is_at role i found me.1 up token, (may, check_refused_event m c t id v whole.1 is_at role (refused_part v.part found) found token)),
            match_false _ _ (found == 0) (ne_eqb found 0 (λ clash. absurd (omega arith))) (refl, below),
          )

  -- a lowering is its event in the lock's core
  pub lower_makes : LowerLaw m
  lower_makes slots id me i x i_is role (inl up) none has is t whole sized is_at fits =
      let v : View E B T L I = me.0 in
      let d : WholeState E B T L I = own_core whole.0 v.place (record (whole.0.state v.place) { phase = Out }) (left_part v.part) in (
        with_step (lowered_view v) i x,
        keeps,
        tt,
        (
          d,
          subst (λ (k : ℕ). Shows m d (stepped t k x id me.1 (with_step (lowered_view v) k x) keeps)) (sym i_is) (lower_raised_shows m whole.0 t id v whole.1 is_at role x me.1 up none is),
          (is_there whole.0 (λ q. (q.phase ≡ Raised) ⊎ (q.phase ≡ In)) v.place (processor_live m whole.0 t id v whole.1 is_at role).low ((whole.1.each id v is_at).processor role) (inl (sym (processor_live m whole.0 t id v whole.1 is_at role).phase ∙ up)), lower_event m whole.0 t id v whole.1 is_at role),
        ),
        ap (λ (p : Phase). (with_step (lowered_view v) i x, hand_left p me.1)) (sym up),
      )
  lower_makes slots id me i x i_is role (inr inside) none has is t whole sized is_at fits =
      let v : View E B T L I = me.0 in
      let c : WholeState E B T L I = whole.0 in
      let live : Live m c id v = processor_live m c t id v whole.1 is_at role in
      let h : HasEdition m v me.1 = has inside in
      let read = same_reading m c t id v whole.1 is_at role (sym live.phase ∙ inside) in
      let same : Some h.found ≡ Some read.0 = sym h.reading ∙ read.1 in
      let here : h.found ≡ read.0 = cc in
      let current : Current m c.number c.name c.tag h.edition = record {
        number_is = h.number ∙ ap m.number here ∙ read.2.number_is;
        name_is = h.name ∙ ap m.name here ∙ read.2.name_is;
        tag_is = h.tag ∙ ap m.tag here ∙ read.2.tag_is;
      } in
      let d : WholeState E B T L I = own_core c v.place (record (c.state v.place) { phase = Out }) (left_part v.part) in (
        with_step (lowered_view v) i x,
        gives,
        tt,
        (
          d,
          subst (λ (k : ℕ). Shows m d (stepped t k x id me.1 (with_step (lowered_view v) k x) gives)) (sym i_is)
              (subst (λ (hand : Hand E B). Shows m d (stepped t (tracker_index v.place) x id hand (with_step (lowered_view v) (tracker_index v.place) x) gives)) (sym h.hand_is)
              (lower_in_shows m c t id v whole.1 is_at role x (rest me.1) h.edition inside none is current)),
          (is_there c (λ q. (q.phase ≡ Raised) ⊎ (q.phase ≡ In)) v.place live.low ((whole.1.each id v is_at).processor role) (inr (sym live.phase ∙ inside)), lower_event m c t id v whole.1 is_at role),
        ),
        ap (λ (p : Phase). (with_step (lowered_view v) i x, hand_left p me.1)) (sym inside),
      )

  -- a regain is its event in the lock's core
  pub regain_makes : RegainLaw m
  regain_makes slots id me i number i_is role out behind read t whole sized is_at fits =
      let v : View E B T L I = me.0 in
      let c : WholeState E B T L I = whole.0 in
      let d : WholeState E B T L I = own_core c v.place (record (c.state v.place) { token = Held }) (regained_part v.part number) in
      let published : number ≡ c.number = number_read_is m c t id v whole.1 is_at role number behind read in
      let live : Live m c id v = processor_live m c t id v whole.1 is_at role in (
        with_step (regained_view v number) i 0,
        keeps,
        tt,
        (
          d,
          subst (λ (k : ℕ). Shows m d (stepped t k 0 id me.1 (with_step (regained_view v number) k 0) keeps)) (sym i_is) (regain_shows m c t id v whole.1 is_at role number me.1 out behind read),
          (regain_may m c t id v whole.1 is_at role out behind, regain_event m c t id v whole.1 is_at role number),
        ),
        (λ x told.
            let both : Some number ≡ Some x = sym read ∙ told in
            let same : number ≡ x = cc in (
              ap (λ (n : ℕ). (with_step (regained_view v n) i 0, me.1)) same,
              (λ s refusal. let h = refusal_published m c t id v whole.1 is_at role s out behind refusal in omega arith),
              subst (SeenUpTo v.part) (sym published ∙ same) (subst (λ (y : Part E L I). SeenUpTo y c.number) (sym live.part) (seen_published m c t whole.1 v.place live.low ((whole.1.each id v is_at).processor role))),
            )),
      )

  -- a processor that is out may raise its tracker
  pub raise_allows : (slots id : ℕ) (me : Seated m) (i x : ℕ) → i ≡ tracker_index me.0.place → me.0.role ≡ Processor → me.0.phase ≡ Out → x ≡ tracker_word (me.0.part.sections + 1) Raised
      → Allows (Whole m) slots id me i (λ _. x) (λ _. TellsRaise m (step slots i x 0 at.none) me x)
  raise_allows slots id me i x i_is role out is t whole sized is_at fits = let r = raise_makes slots id me i x i_is role out is t whole sized is_at fits in (r.0, r.1, r.2, (r.3.0, r.3.1), r.4)

  -- a processor that has raised its tracker may read its token
  pub check_allows : (slots id : ℕ) (me : Seated m) (i : ℕ) → i ≡ token_index me.0.count me.0.place → me.0.role ≡ Processor → me.0.phase ≡ Raised
      → Allows (Whole m) slots id me i (λ n. n) (TellsCheck m (step slots i 0 0 at.none) me)
  check_allows slots id me i i_is role up t whole sized is_at fits = let r = check_makes slots id me i i_is role up t whole sized is_at fits in (r.0, r.1, r.2, (r.3.0, r.3.1), r.4)

  -- a processor without the book may lower its tracker if raised, or in with its edition in hand
  pub lower_allows : (slots id : ℕ) (me : Seated m) (i x : ℕ) → i ≡ tracker_index me.0.place → me.0.role ≡ Processor → (me.0.phase ≡ Raised) ⊎ (me.0.phase ≡ In) → me.0.book ≡ None → (me.0.phase ≡ In → HasEdition m me.0 me.1) → x ≡ tracker_word me.0.part.sections Out
      → Allows (Whole m) slots id me i (λ _. x) (λ _. TellsLower m (step slots i x 0 at.none) me x)
  lower_allows slots id me i x i_is role inside none has is t whole sized is_at fits = let r = lower_makes slots id me i x i_is role inside none has is t whole sized is_at fits in (r.0, r.1, r.2, (r.3.0, r.3.1), r.4)

  -- a processor that is out may take its token, with a number read under the lock behind
  pub regain_allows : (slots id : ℕ) (me : Seated m) (i number : ℕ) → i ≡ token_index me.0.count me.0.place → me.0.role ≡ Processor → me.0.phase ≡ Out → me.0.behind ≡ true → me.0.part.read ≡ Some number
      → Allows (Whole m) slots id me i (λ _. 0) (λ _. TellsRegain m (step slots i 0 0 at.none) me 0)
  regain_allows slots id me i number i_is role out behind read t whole sized is_at fits = let r = regain_makes slots id me i number i_is role out behind read t whole sized is_at fits in (r.0, r.1, r.2, (r.3.0, r.3.1), r.4)
