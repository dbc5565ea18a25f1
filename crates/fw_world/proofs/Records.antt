-- Facts of each record, and lists of asks, where one record comes behind others.
use Rattle.std.proofs.Common.{◌≡◌, ◌≢◌, ℕ, suc, ◌+◌, ◌-◌, ◌<◌, ◌≤◌, Bool, true, false, T, List, [], ◌∷◌, ◌++◌, length, map, refl, sym, ap, ◌∙◌, subst, cond, arith, eq-eqb, append_assoc, inl, inr, zero}
use Rattle.std.proofs.Math.Facts.{eqb_yes}
use Rattle.std.proofs.Math.ListN.{get_or-append}
use Rattle.std.proofs.Math.Nat.{eq-or-lt_of_le}
use Rattle.std.proofs.Math.Seq.{get_or-append_seam}
use Rattle.std.proofs.lemmas.List.{append-nil, length-append, map-append}
use Rattle.std.proofs.lemmas.List.Elements.{filter-append}
use Rattle.std.proofs.lemmas.Option.{slice_get_within, slice_get-get_or}
use Rattle.std.specs.Prelude.{◌⊎◌, ◌==◌, get_or, Option, Some, None, IfSome, IsSomeAnd, slice_get}
use Rattle.std.specs.List.{AllByRecursion}
use Rattle.std.specs.List.Sorted.{IsNonDecreasing}
use Rattle.fw_base.proofs.Lists.{all_push, all_weaker}
use Rattle.state_asks.specs.declared.op.Op.{Op}
use Rattle.state_asks.specs.declared.reply.Reply.{Reply}
use Rattle.generation_store.specs.Published.{Published}
use Rattle.eval_engine.specs.Dockets.{judgement_in}
use Rattle.eval_engine.specs.declared.docket_entry.DocketEntry.{DocketEntry}
use Rattle.fw_world.specs.Asks.{LaneAsk, asks_of_record, AreAsksOf, IsAskOfEntry, IsJudgedUnder, record_asks}
use Rattle.fw_world.specs.Entries.{EachRecord, IsEvaluated, IsEvaluatedTo}
use Rattle.fw_world.specs.Inputs.{Input, Other, Malformed, Packet}

-- one record more
pub EachRecord-append : (P : ℕ → Input → DocketEntry → Type 0) (at : ℕ) (inputs : List Input) (entries : List DocketEntry) (input : Input) (entered : DocketEntry)
    → EachRecord P at inputs entries → P (at + length entries) input entered → EachRecord P at (inputs ++ input ∷ []) (entries ++ entered ∷ [])
EachRecord-append P at [] [] input entered each one = (let same : at + 0 ≡ at = omega arith in subst (λ (n : ℕ). P n input entered) same one, tt)
EachRecord-append P at [] (first ∷ entries) input entered each one = absurd each
EachRecord-append P at (met ∷ inputs) [] input entered each one = absurd each
EachRecord-append P at (met ∷ inputs) (first ∷ entries) input entered each one =
    let same : at + length (first ∷ entries) ≡ at + 1 + length entries = omega arith in
    (each.0, EachRecord-append P (at + 1) inputs entries input entered each.1 (subst (λ (n : ℕ). P n input entered) same one))

-- a fact that follows from another for each record
pub EachRecord-weaker : (P Q : ℕ → Input → DocketEntry → Type 0) (at : ℕ) (inputs : List Input) (entries : List DocketEntry)
    → ((n : ℕ) (input : Input) (entered : DocketEntry) → n < at + length entries → P n input entered → Q n input entered) → EachRecord P at inputs entries → EachRecord Q at inputs entries
EachRecord-weaker P Q at [] [] weaker each = tt
EachRecord-weaker P Q at [] (first ∷ entries) weaker each = each
EachRecord-weaker P Q at (met ∷ inputs) [] weaker each = each
EachRecord-weaker P Q at (met ∷ inputs) (first ∷ entries) weaker each = (
  weaker at met first (omega arith) each.0,
  EachRecord-weaker P Q (at + 1) inputs entries (λ n input entered below is. weaker n input entered (omega arith) is) each.1,
)

-- an evaluation depends on the asks of its own record alone
pub IsEvaluated-asks : (editions : List Published) (asks more : List LaneAsk) (at : ℕ) (input : Input) (entered : DocketEntry)
    → asks_of_record at more ≡ asks_of_record at asks → IsEvaluated editions asks at input entered → IsEvaluated editions more at input entered
IsEvaluated-asks editions asks more at Other entered same is = is
IsEvaluated-asks editions asks more at (Malformed kind) entered same is = is
IsEvaluated-asks editions asks more at (Packet packet port second) entered same is =
    subst (λ (own : List LaneAsk). IfSome (judgement_in entered) (IsEvaluatedTo editions packet port second own)) (sym same) is

-- no ask of a record that none was asked for
pub asks_of_record-none : (n at : ℕ) (asks : List LaneAsk) → AllByRecursion (λ ask. ask.at ≤ n) asks → n < at → asks_of_record at asks ≡ []
asks_of_record-none n at [] all above = refl
asks_of_record-none n at (ask ∷ asks) all above = decided (ask.at == at) refl (asks_of_record-none n at asks all.1 above)
  where
    decided : (b : Bool) → b ≡ (ask.at == at) → asks_of_record at asks ≡ [] → cond b (ask ∷ asks_of_record at asks) (asks_of_record at asks) ≡ []
    decided true is rest = let same : ask.at ≡ at = eqb_yes (subst T is tt) in absurd (omega (arith, all.0))
    decided false is rest = rest

-- those of another record
pub record_asks-other : (k after at : ℕ) (ops : List Op) (replies : List Reply) → k ≢ at → asks_of_record k (record_asks after at ops replies) ≡ []
record_asks-other k after at [] replies other = refl
record_asks-other k after at (op ∷ ops) [] other = refl
record_asks-other k after at (op ∷ ops) (reply ∷ replies) other = decided (at == k) refl (record_asks-other k after at ops replies other)
  where
    decided : (b : Bool) → b ≡ (at == k) → asks_of_record k (record_asks after at ops replies) ≡ [] → cond b (record { after = after; at = at; op = op; reply = reply } ∷ asks_of_record k (record_asks after at ops replies)) (asks_of_record k (record_asks after at ops replies)) ≡ []
    decided true is rest = absurd (other (sym (eqb_yes (subst T is tt))))
    decided false is rest = rest

-- those of the record itself are all of them
pub record_asks-own : (after at : ℕ) (ops : List Op) (replies : List Reply) → asks_of_record at (record_asks after at ops replies) ≡ record_asks after at ops replies
record_asks-own after at [] replies = refl
record_asks-own after at (op ∷ ops) [] = refl
record_asks-own after at (op ∷ ops) (reply ∷ replies) = decided (at == at) (eq-eqb at at refl) (record_asks-own after at ops replies)
  where
    decided : (b : Bool) → b ≡ true → asks_of_record at (record_asks after at ops replies) ≡ record_asks after at ops replies → cond b (record { after = after; at = at; op = op; reply = reply } ∷ asks_of_record at (record_asks after at ops replies)) (asks_of_record at (record_asks after at ops replies))
        ≡ record { after = after; at = at; op = op; reply = reply } ∷ record_asks after at ops replies
    decided true is same = ap (λ rest. record { after = after; at = at; op = op; reply = reply } ∷ rest) same
    decided false is same = cc

-- the asks of an earlier record stay when those of the next record come behind
pub asks_of_record-earlier : (k after at : ℕ) (asks : List LaneAsk) (ops : List Op) (replies : List Reply) → k ≢ at → asks_of_record k (asks ++ record_asks after at ops replies) ≡ asks_of_record k asks
asks_of_record-earlier k after at asks ops replies other =
    filter-append _ asks (record_asks after at ops replies) ∙ ap (λ (rest : List LaneAsk). asks_of_record k asks ++ rest) (record_asks-other k after at ops replies other) ∙ append-nil _

-- those of the next record are its own
pub asks_of_record-next : (n after at : ℕ) (asks : List LaneAsk) (ops : List Op) (replies : List Reply) → AllByRecursion (λ ask. ask.at ≤ n) asks → n < at → asks_of_record at (asks ++ record_asks after at ops replies) ≡ record_asks after at ops replies
asks_of_record-next n after at asks ops replies all above =
    filter-append _ asks (record_asks after at ops replies)
    ∙ ap (λ (first : List LaneAsk). first ++ asks_of_record at (record_asks after at ops replies)) (asks_of_record-none n at asks all above)
    ∙ record_asks-own after at ops replies

-- an element stays where it is in a longer list
pub slice_get-append : {X : Type 0} (xs ys : List X) (i : ℕ) (x : X) → slice_get xs i ≡ Some x → slice_get (xs ++ ys) i ≡ Some x
slice_get-append xs ys i x is =
    let within : i < length xs = slice_get_within xs i x is in
    let longer : i < length (xs ++ ys) = omega (arith, length-append xs ys) in
    slice_get-get_or (xs ++ ys) i x longer ∙ ap Some (get_or-append xs ys x i within) ∙ sym (slice_get-get_or xs i x within) ∙ is

-- what holds of an element holds of it in a longer list
pub IsSomeAnd-append : {X : Type 0} (P : X → Type 0) (xs ys : List X) (i : ℕ) → IsSomeAnd (slice_get xs i) P → IsSomeAnd (slice_get (xs ++ ys) i) P
IsSomeAnd-append {X} P xs ys i is = decided (slice_get xs i) refl is
  where
    decided : (found : Option X) → slice_get xs i ≡ found → IsSomeAnd found P → IsSomeAnd (slice_get (xs ++ ys) i) P
    decided None same is = absurd is
    decided (Some x) same is = subst (λ (o : Option X). IsSomeAnd o P) (sym (slice_get-append xs ys i x same)) is

-- an element that is found is within the list
pub IsSomeAnd-within : {X : Type 0} (P : X → Type 0) (xs : List X) (i : ℕ) → IsSomeAnd (slice_get xs i) P → i < length xs
IsSomeAnd-within {X} P xs i is = decided (slice_get xs i) refl is
  where
    decided : (found : Option X) → slice_get xs i ≡ found → IsSomeAnd found P → i < length xs
    decided None same is = absurd is
    decided (Some x) same is = slice_get_within xs i x same

-- the last element
pub slice_get-last : {X : Type 0} (xs : List X) (x : X) → slice_get (xs ++ x ∷ []) (length xs) ≡ Some x
slice_get-last xs x =
    let within : length xs < length (xs ++ x ∷ []) = omega (arith, length-append xs (x ∷ [])) in
    slice_get-get_or (xs ++ x ∷ []) (length xs) x within ∙ ap Some (get_or-append_seam xs x [] x)

-- a number behind others that aren't greater
pub IsNonDecreasing-push : (xs : List ℕ) (y : ℕ) → IsNonDecreasing xs → AllByRecursion (λ x. x ≤ y) xs → IsNonDecreasing (xs ++ y ∷ [])
IsNonDecreasing-push xs y rising below = λ i j d order within.
    let bound : j < length xs + 1 = omega (arith, length-append xs (y ∷ [])) in
    decided i j d order bound
  where
    at_most : (zs : List ℕ) (i d : ℕ) → AllByRecursion (λ x. x ≤ y) zs → i < length zs → get_or zs i d ≤ y
    at_most [] i d all within = absurd (omega arith)
    at_most (z ∷ zs) zero d all within = all.0
    at_most (z ∷ zs) (suc i) d all within = at_most zs i d all.1 (omega arith)

    last : (d : ℕ) → get_or (xs ++ y ∷ []) (length xs) d ≡ y
    last d = get_or-append_seam xs y [] d

    cases : (i j d : ℕ) → i ≤ j → (j ≡ length xs) ⊎ (j < length xs) → (i ≡ length xs) ⊎ (i < length xs) → get_or (xs ++ y ∷ []) i d ≤ get_or (xs ++ y ∷ []) j d
    cases i j d order (inr j_in) i_is = let i_in : i < length xs = omega arith in rw (get_or-append xs (y ∷ []) d i i_in, get_or-append xs (y ∷ []) d j j_in) (rising i j d order j_in)
    cases i j d order (inl j_last) (inr i_in) = rw (get_or-append xs (y ∷ []) d i i_in, j_last, last d) (at_most xs i d below i_in)
    cases i j d order (inl j_last) (inl i_last) = rw (i_last, j_last) (omega arith)

    side : (k : ℕ) → k < length xs + 1 → (k ≡ length xs) ⊎ (k < length xs)
    side k below = let least : k ≤ length xs = omega arith in eq-or-lt_of_le least

    decided : (i j d : ℕ) → i ≤ j → j < length xs + 1 → get_or (xs ++ y ∷ []) i d ≤ get_or (xs ++ y ∷ []) j d
    decided i j d order bound = cases i j d order (side j bound) (side i (omega arith))

-- every ask is for a record that has an entry
pub asks_are_within : (entries : List DocketEntry) (asks : List LaneAsk) → AreAsksOf entries asks → AllByRecursion (λ ask. ask.at ≤ length entries) asks
asks_are_within entries asks are = both asks are.numbered are.entered
  where
    both : (some : List LaneAsk) → AllByRecursion (λ ask. 1 ≤ ask.at) some → AllByRecursion (IsAskOfEntry entries) some → AllByRecursion (λ ask. ask.at ≤ length entries) some
    both [] numbered entered = tt
    both (ask ∷ some) numbered entered =
        let within : ask.at - 1 < length entries = IsSomeAnd-within (IsJudgedUnder ask.after) entries (ask.at - 1) entered.0 in
        (omega (arith, numbered.0), both some numbered.1 entered.1)

AllByRecursion-map : (y : ℕ) (asks : List LaneAsk) → AllByRecursion (λ ask. ask.at ≤ y) asks → AllByRecursion (λ x. x ≤ y) (map (λ (ask : LaneAsk). ask.at) asks)
AllByRecursion-map y [] all = tt
AllByRecursion-map y (ask ∷ asks) all = (all.0, AllByRecursion-map y asks all.1)

-- one ask more
AreAsksOf-push : (entries : List DocketEntry) (asks : List LaneAsk) (ask : LaneAsk) → AreAsksOf entries asks → AllByRecursion (λ one. one.at ≤ ask.at) asks → 1 ≤ ask.at → IsAskOfEntry entries ask → AreAsksOf entries (asks ++ ask ∷ [])
AreAsksOf-push entries asks ask are below numbered entered = record {
  ordered = rw (map-append (λ (one : LaneAsk). one.at) asks (ask ∷ [])) (IsNonDecreasing-push (map (λ (one : LaneAsk). one.at) asks) ask.at are.ordered (AllByRecursion-map ask.at asks below));
  numbered = all_push (λ (one : LaneAsk). 1 ≤ one.at) asks ask are.numbered numbered;
  entered = all_push (IsAskOfEntry entries) asks ask are.entered entered;
}

-- those of one record behind others
pub AreAsksOf-record : (entries : List DocketEntry) (asks : List LaneAsk) (after at : ℕ) (ops : List Op) (replies : List Reply) → AreAsksOf entries asks → AllByRecursion (λ one. one.at ≤ at) asks → 1 ≤ at
    → IsSomeAnd (slice_get entries (at - 1)) (IsJudgedUnder after) → AreAsksOf entries (asks ++ record_asks after at ops replies)
AreAsksOf-record entries asks after at [] replies are below numbered entered = subst (λ (all : List LaneAsk). AreAsksOf entries all) (sym (append-nil asks)) are
AreAsksOf-record entries asks after at (op ∷ ops) [] are below numbered entered = subst (λ (all : List LaneAsk). AreAsksOf entries all) (sym (append-nil asks)) are
AreAsksOf-record entries asks after at (op ∷ ops) (reply ∷ replies) are below numbered entered =
    let ask : LaneAsk = record { after = after; at = at; op = op; reply = reply } in
    let self : at ≤ at = omega arith in
    let one = AreAsksOf-push entries asks ask are below numbered entered in
    let rest = AreAsksOf-record entries (asks ++ ask ∷ []) after at ops replies one (all_push (λ (one : LaneAsk). one.at ≤ at) asks ask below self) numbered entered in
    subst (λ (all : List LaneAsk). AreAsksOf entries all) (append_assoc asks (ask ∷ []) (record_asks after at ops replies)) rest

-- asks of entries are those of more entries
pub AreAsksOf-entries : (entries : List DocketEntry) (entered : DocketEntry) (asks : List LaneAsk) → AreAsksOf entries asks → AreAsksOf (entries ++ entered ∷ []) asks
AreAsksOf-entries entries entered asks are = record {
  ordered = are.ordered;
  numbered = are.numbered;
  entered = all_weaker (IsAskOfEntry entries) (IsAskOfEntry (entries ++ entered ∷ [])) (λ ask is. IsSomeAnd-append (IsJudgedUnder ask.after) entries (entered ∷ []) (ask.at - 1) is) asks are.entered;
}
