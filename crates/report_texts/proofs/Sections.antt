-- Texts of lists, element by element.
use Rattle.std.proofs.Common.{◌≡◌, ℕ, suc, ◌+◌, ◌-◌, ◌<◌, ◌≤◌, Some, List, [], ◌∷◌, ◌++◌, get_or, length, map, drop, drop-cons, drop_of_length-le, refl, sym, ap, ◌∙◌, append_assoc, arith}
use Rattle.std.proofs.lemmas.List.{drop_more}
use Rattle.std.specs.List.{flat_map}
use Rattle.fw_base.proofs.Texts.{flat_map-drop}
use Rattle.eval_engine.specs.Dockets.{DocketValue}
use Rattle.eval_engine.specs.declared.docket_entry.DocketEntry.{DocketEntry}
use Rattle.generation_store.specs.Published.{Published}
use Rattle.report_texts.specs.DocketText.{capture_text, captures_text, record_line, record_lines, end_line}
use Rattle.report_texts.specs.JournalText.{hits_line, hits_text, lane_line, lanes_text}
use Rattle.report_texts.specs.Report.{last_edition}
use Rattle.report_texts.specs.RulesText.{set_text, sets_text}
use Rattle.report_texts.specs.declared.capture_end.CaptureEnd.{CaptureEnd}

-- the text of the images of elements is that of the elements, each by its image
pub flat_map_map : {X Y Z : Type 0} (f : Y → List Z) (g : X → Y) (xs : List X) → flat_map f (map g xs) ≡ flat_map (λ x. f (g x)) xs
flat_map_map f g [] = refl
flat_map_map f g (x ∷ xs) = ap (λ rest. f (g x) ++ rest) (flat_map_map f g xs)

-- the text of the element at i, and then of those behind it
pub text_at : {X : Type 0} (f : X → List ℕ) (xs : List X) (i : ℕ) (x : X) → i < length xs → x ≡ get_or xs i x → flat_map f (drop i xs) ≡ f x ++ flat_map f (drop (i + 1) xs)
text_at f xs i x within is = flat_map-drop f xs i x within ∙ ap (λ y. f y ++ flat_map f (drop (i + 1) xs)) (sym is)

-- the first of the lines that are left
pub next_line : (capture at i : ℕ) (entries : List DocketEntry) (end : CaptureEnd) (d : DocketEntry) → i < length entries
    → record_lines capture at (drop i entries) ++ end_line capture end
    ≡ record_line capture at (get_or entries i d) ++ (record_lines capture (at + 1) (drop (i + 1) entries) ++ end_line capture end)
next_line capture at i entries end d within =
    let next : i + 1 ≡ suc i = omega arith in
    rw (drop-cons entries i d, next) (append_assoc (record_line capture at (get_or entries i d)) (record_lines capture (at + 1) (drop (suc i) entries)) (end_line capture end))

-- only the line of the end is left
pub last_line : (capture at i : ℕ) (entries : List DocketEntry) (end : CaptureEnd) → length entries ≤ i
    → record_lines capture at (drop i entries) ++ end_line capture end ≡ end_line capture end
last_line capture at i entries end past = rw (drop_of_length-le entries {i = i} past) refl

-- the first of the captures that are left
pub next_capture : (capture i : ℕ) (dockets : List DocketValue) (ends others : List CaptureEnd) (end : CaptureEnd) (docket : DocketValue)
    → i < length dockets → docket ≡ get_or dockets i docket → ends ≡ end ∷ others
    → captures_text capture (drop i dockets) ends ≡ capture_text capture docket.entries end ++ captures_text (capture + 1) (drop (i + 1) dockets) others
unfolding captures_text
next_capture capture i dockets ends others end docket within is split =
    let first : drop i dockets ≡ docket ∷ drop (i + 1) dockets = drop_more dockets i docket within ∙ ap (λ (d : DocketValue). d ∷ drop (i + 1) dockets) (sym is) in
    rw (first, split) refl

-- none is left
pub no_capture_end : (capture : ℕ) (dockets : List DocketValue) (ends : List CaptureEnd) → length ends ≡ 0 → captures_text capture dockets ends ≡ []
unfolding captures_text
no_capture_end capture [] ends none = refl
no_capture_end capture (docket ∷ dockets) [] none = refl
no_capture_end capture (docket ∷ dockets) (end ∷ ends) none = absurd (omega arith)

-- behind the last docket no capture's section stands
pub no_capture : (capture i : ℕ) (dockets : List DocketValue) (ends : List CaptureEnd) → length dockets ≤ i → captures_text capture (drop i dockets) ends ≡ []
unfolding captures_text
no_capture capture i dockets ends past = rw (drop_of_length-le dockets {i = i} past) refl

-- the first of the lanes that are left
pub next_lane : (lane i : ℕ) (dockets : List DocketValue) (trackers others : List ℕ) (tracker : ℕ) (docket : DocketValue)
    → i < length dockets → docket ≡ get_or dockets i docket → trackers ≡ tracker ∷ others
    → lanes_text lane (drop i dockets) trackers ≡ lane_line lane docket.refused tracker ++ lanes_text (lane + 1) (drop (i + 1) dockets) others
unfolding lanes_text
next_lane lane i dockets trackers others tracker docket within is split =
    let first : drop i dockets ≡ docket ∷ drop (i + 1) dockets = drop_more dockets i docket within ∙ ap (λ (d : DocketValue). d ∷ drop (i + 1) dockets) (sym is) in
    rw (first, split) refl

-- without a tracker no lane's line stands
pub no_tracker : (lane : ℕ) (dockets : List DocketValue) (trackers : List ℕ) → length trackers ≡ 0 → lanes_text lane dockets trackers ≡ []
unfolding lanes_text
no_tracker lane [] trackers none = refl
no_tracker lane (docket ∷ dockets) [] none = refl
no_tracker lane (docket ∷ dockets) (tracker ∷ trackers) none = absurd (omega arith)

-- behind the last docket no lane's line stands
pub no_lane : (lane i : ℕ) (dockets : List DocketValue) (trackers : List ℕ) → length dockets ≤ i → lanes_text lane (drop i dockets) trackers ≡ []
unfolding lanes_text
no_lane lane i dockets trackers past = rw (drop_of_length-le dockets {i = i} past) refl

-- the first of the hits that are left
pub next_hits : (lane i : ℕ) (hits : List ℕ) → i < length hits → hits_text lane (drop i hits) ≡ hits_line lane (get_or hits i 0) ++ hits_text (lane + 1) (drop (i + 1) hits)
unfolding hits_text
next_hits lane i hits within = ap (hits_text lane) (drop_more hits i 0 within)

-- behind the last lane's hits no line of hits stands
pub no_hits : (lane i : ℕ) (hits : List ℕ) → length hits ≤ i → hits_text lane (drop i hits) ≡ []
unfolding hits_text
no_hits lane i hits past = rw (drop_of_length-le hits {i = i} past) refl

-- the first of the sets that are left
pub next_set : (mask set : ℕ) → set < 32 → sets_text mask (32 - set) set ≡ set_text mask set ++ sets_text mask (32 - (set + 1)) (set + 1)
unfolding sets_text
next_set mask set within =
    let some : 32 - set ≡ suc (32 - (set + 1)) = omega arith in
    rw some refl

-- behind set 31 no set is named
pub no_set : (mask set : ℕ) → 32 ≤ set → sets_text mask (32 - set) set ≡ []
unfolding sets_text
no_set mask set past =
    let none : 32 - set ≡ 0 = omega arith in
    rw none refl

-- the last edition is the one in the last place
pub last_at : {X : Type 0} (f : X → Published) (xs : List X) (x : X) → 0 < length xs → x ≡ get_or xs (length xs - 1) x → last_edition (map f xs) ≡ Some (f x)
last_at f [] x some is = absurd (omega arith)
last_at f (y ∷ []) x some is = ap (λ e. Some (f e)) (sym is)
last_at f (y ∷ z ∷ xs) x some is =
    let place : length (y ∷ z ∷ xs) - 1 ≡ suc (length (z ∷ xs) - 1) = omega arith in
    last_at f (z ∷ xs) x (omega arith) (rw place at is)
