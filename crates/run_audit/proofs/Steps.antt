-- Steps of loops over lists.
use Rattle.std.proofs.Common.{◌≡◌, ℕ, ◌+◌, ◌<◌, ◌≤◌, Bool, true, List, [], ◌∷◌, ◌++◌, length, drop, take, get_or, Option, Some, None, refl, sym, ap, ◌∙◌}
use Rattle.std.specs.Prelude.{slice_get, option_to_list}
use Rattle.std.specs.List.{filter, find, cons_option}
use Rattle.std.proofs.lemmas.List.{drop_more, drop_all, take_more, append_assoc}
use Rattle.std.proofs.lemmas.List.Elements.{filter_map-append, filter-append}
use Rattle.state_asks.specs.declared.op.Op.{Op}
use Rattle.state_asks.specs.declared.reply.Reply.{Reply}
use Rattle.state_journal.specs.declared.entry.Entry.{Entry}
use Rattle.run_audit.specs.declared.ask_stands.AskStand.{AskStand}
use Rattle.run_audit.specs.declared.numbered.Numbered.{Numbered}
use Rattle.run_audit.specs.AskStands.{SweepValue, most_lanes, stand_of, swept, stands_from, asked_at, asked_by_each}
use Rattle.run_audit.specs.Numbering.{numbered_from, picked}

-- the next thing by its number
pub numbered_more : {X : Type 0} (key : X → ℕ) (xs : List X) (i : ℕ) (d : X) → i < length xs
    → numbered_from key i (drop i xs) ≡ record { at = key (get_or xs i d); place = i } ∷ numbered_from key (i + 1) (drop (i + 1) xs)
numbered_more key xs i d within = ap (numbered_from key i) (drop_more xs i d within)

-- none is left
pub numbered_none : {X : Type 0} (key : X → ℕ) (xs : List X) (i : ℕ) → length xs ≤ i → numbered_from key i (drop i xs) ≡ []
numbered_none key xs i done = ap (numbered_from key i) (drop_all i xs done)

-- the next of those in places
pub picked_more : {X : Type 0} (xs : List X) (places : List Numbered) (i : ℕ) (d : Numbered) → i < length places
    → picked xs (drop i places) ≡ cons_option (slice_get xs (get_or places i d).place) (picked xs (drop (i + 1) places))
picked_more xs places i d within = ap (picked xs) (drop_more places i d within)

-- none is left of those in places
pub picked_none : {X : Type 0} (xs : List X) (places : List Numbered) (i : ℕ) → length places ≤ i → picked xs (drop i places) ≡ []
picked_none xs places i done = ap (picked xs) (drop_all i places done)

-- what is kept of the next entry
pub stands_more : (sweep : SweepValue) (entries : List Entry) (i : ℕ) (d : Entry) → i < length entries
    → stands_from sweep i (drop i entries) ≡ cons_option (stand_of sweep i (get_or entries i d)) (stands_from (swept sweep (get_or entries i d)) (i + 1) (drop (i + 1) entries))
stands_more sweep entries i d within = ap (stands_from sweep i) (drop_more entries i d within)

-- no entry is left
pub stands_none : (sweep : SweepValue) (entries : List Entry) (i : ℕ) → length entries ≤ i → stands_from sweep i (drop i entries) ≡ []
stands_none sweep entries i done = ap (stands_from sweep i) (drop_all i entries done)

-- the first that passes is found in the next place
pub found_now : {X : Type 0} (p : X → Bool) (xs : List X) (places : List Numbered) (i : ℕ) (d : Numbered) (x : X) → i < length places
    → slice_get xs (get_or places i d).place ≡ Some x → p x ≡ true → find p (picked xs (drop i places)) ≡ Some x
found_now p xs places i d x within found passes =
    ap (find p) (picked_more xs places i d within) ∙ ap (λ (o : Option _). find p (cons_option o (picked xs (drop (i + 1) places)))) found ∙ rw passes refl

-- ---- steps of loops that put things behind others

kept_first : {X : Type 0} (o : Option X) (xs : List X) → option_to_list o ++ xs ≡ cons_option o xs
kept_first None xs = refl
kept_first (Some x) xs = refl

-- one thing more by its number
pub numbered_step : {X : Type 0} (key : X → ℕ) (xs : List X) (i : ℕ) (d : X) (done more total : List Numbered) → i < length xs
    → done ++ numbered_from key i (drop i xs) ≡ total → more ≡ done ++ record { at = key (get_or xs i d); place = i } ∷ [] → more ++ numbered_from key (i + 1) (drop (i + 1) xs) ≡ total
numbered_step key xs i d done more total within was is =
    let one : Numbered = record { at = key (get_or xs i d); place = i } in
    let rest : List Numbered = numbered_from key (i + 1) (drop (i + 1) xs) in
    ap (λ (ys : List Numbered). ys ++ rest) is ∙ append_assoc done (one ∷ []) rest ∙ ap (λ (ys : List Numbered). done ++ ys) (sym (numbered_more key xs i d within)) ∙ was

-- one entry more of the journal
pub stands_step : (sweep next : SweepValue) (entries : List Entry) (i : ℕ) (d : Entry) (done more total : List AskStand) (kept : Option AskStand) → i < length entries
    → done ++ stands_from sweep i (drop i entries) ≡ total → kept ≡ stand_of sweep i (get_or entries i d) → next ≡ swept sweep (get_or entries i d)
    → more ≡ done ++ option_to_list kept → more ++ stands_from next (i + 1) (drop (i + 1) entries) ≡ total
stands_step sweep next entries i d done more total kept within was stand further is =
    let rest : List AskStand = stands_from (swept sweep (get_or entries i d)) (i + 1) (drop (i + 1) entries) in
    ap (λ (s : SweepValue). more ++ stands_from s (i + 1) (drop (i + 1) entries)) further
    ∙ ap (λ (ys : List AskStand). ys ++ rest) is ∙ append_assoc done (option_to_list kept) rest
    ∙ ap (λ (ys : List AskStand). done ++ ys) (kept_first kept rest ∙ ap (λ (o : Option AskStand). cons_option o rest) stand ∙ sym (stands_more sweep entries i d within)) ∙ was

kept_alone : {X : Type 0} (o : Option X) → cons_option o [] ≡ option_to_list o
kept_alone None = refl
kept_alone (Some x) = refl

-- one ask more with its answer
pub asked_step : (entries : List Entry) (stands : List AskStand) (i : ℕ) (d : AskStand) (done more : List (Op × Reply)) (kept : Option (Op × Reply)) → i < length stands
    → done ≡ asked_by_each entries (take i stands) → kept ≡ asked_at entries (get_or stands i d).place → more ≡ done ++ option_to_list kept
    → more ≡ asked_by_each entries (take (i + 1) stands)
asked_step entries stands i d done more kept within was found is =
    let ask : AskStand → Option (Op × Reply) = λ (stand : AskStand). asked_at entries stand.place in
    is ∙ ap (λ (ys : List (Op × Reply)). ys ++ option_to_list kept) was
    ∙ ap (λ (ys : List (Op × Reply)). asked_by_each entries (take i stands) ++ ys) (ap option_to_list found ∙ sym (kept_alone (asked_at entries (get_or stands i d).place)))
    ∙ sym (filter_map-append ask (take i stands) (get_or stands i d ∷ []))
    ∙ ap (asked_by_each entries) (sym (take_more stands i d within))

-- one place more, of which what passes is kept
pub own_step : {X : Type 0} (p : X → Bool) (xs : List X) (places : List Numbered) (i : ℕ) (d : Numbered) (done more : List X) (kept : Option X) → i < length places
    → done ≡ filter p (picked xs (take i places)) → kept ≡ slice_get xs (get_or places i d).place → more ≡ done ++ filter p (option_to_list kept)
    → more ≡ filter p (picked xs (take (i + 1) places))
own_step {X} p xs places i d done more kept within was found is =
    let pick : Numbered → Option X = λ (one : Numbered). slice_get xs one.place in
    is ∙ ap (λ (ys : List X). ys ++ filter p (option_to_list kept)) was
    ∙ sym (filter-append p (picked xs (take i places)) (option_to_list kept))
    ∙ ap (λ (ys : List X). filter p (picked xs (take i places) ++ ys)) (ap option_to_list found ∙ sym (kept_alone (slice_get xs (get_or places i d).place)))
    ∙ ap (filter p) (sym (filter_map-append pick (take i places) (get_or places i d ∷ [])) ∙ ap (picked xs) (sym (take_more places i d within)))

-- so many lanes an entry can name
pub lanes_are : 65536 ≡ most_lanes
unfolding most_lanes
lanes_are = refl
