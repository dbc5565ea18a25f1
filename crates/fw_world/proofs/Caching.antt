-- A lane's cache behind one record more, and what it keeps of an edition.
use Rattle.std.proofs.Common.{◌≡◌, ℕ, ◌+◌, ◌≤◌, Bool, true, false, T, List, [], ◌∷◌, ◌++◌, refl, sym, ap, ◌∙◌, subst, append_assoc, inl, inr}
use Rattle.std.proofs.Math.Facts.{eqb_yes}
use Rattle.std.proofs.lemmas.List.{append-nil}
use Rattle.std.specs.Prelude.{◌⊎◌, slice_get, ◌==◌, Option, Some, None, IfSome, IsSomeAnd, unwrap_or, option_and_then}
use Rattle.std.specs.List.{AllByRecursion}
use Rattle.fw_base.specs.declared.port.Port.{Port}
use Rattle.ip6_headers.specs.declared.any_ip.AnyIp.{AnyIp}
use Rattle.rule_chain.specs.Configuration.{Configuration}
use Rattle.generation_store.proofs.OneEdition.{same_edition}
use Rattle.generation_store.specs.Published.{Published, IsEdition, IsBuilt}
use Rattle.verdict_cache.specs.Cache.{Kept, is_given}
use Rattle.eval_engine.proofs.Dockets.{judgement_in-judged}
use Rattle.eval_engine.specs.Dockets.{DocketValue, judged_entry, judgement_in}
use Rattle.eval_engine.specs.Question.{question_under}
use Rattle.eval_engine.specs.declared.docket_entry.DocketEntry.{DocketEntry}
use Rattle.eval_engine.specs.declared.judgement.Judgement.{Judgement}
use Rattle.cached_verdicts.proofs.Recent.{has_recent_open}
use Rattle.cached_verdicts.specs.LaneCache.{LaneCacheValue, IsNoneBefore, HasRecent, IsPortOf}
use Rattle.cached_verdicts.specs.Verdicts.{KeepsVerdicts}
use Rattle.cached_verdicts.specs.Visits.{Visit, last_number, visit_of}
use Rattle.cached_verdicts.specs.declared.kept_verdict.KeptVerdict.{KeptVerdict}
use Rattle.fw_world.specs.Caches.{capacity_of, first_cache, IsPortFor, IsTrueFor, IsCacheBehind, IsCacheAfter, KeepsUnder, IsCacheAmong, KeepsSeen, IsCacheSeen}
use Rattle.fw_world.specs.Editions.{edition_numbered, judging_edition}
use Rattle.fw_world.specs.Entries.{EachRecord, IsEntryFor}
use Rattle.fw_world.specs.Inputs.{Input, Other, Malformed, Packet}
use Rattle.fw_world.specs.Sections.{judged_editions}
use Rattle.fw_world.specs.Standing.{CacheStandsFor, AreSeenOf}
use Rattle.fw_world.specs.Visits.{packet_visits, record_visits, lane_visits}

-- one record more
lane_visits-append : (editions : List Published) (at : ℕ) (inputs : List Input) (entries : List DocketEntry) (input : Input) (entered : DocketEntry) → EachRecord IsEntryFor at inputs entries
    → lane_visits editions (inputs ++ input ∷ []) (entries ++ entered ∷ []) ≡ lane_visits editions inputs entries ++ record_visits editions input entered
lane_visits-append editions at [] [] input entered each = append-nil _
lane_visits-append editions at [] (first ∷ entries) input entered each = absurd each
lane_visits-append editions at (met ∷ inputs) [] input entered each = absurd each
lane_visits-append editions at (met ∷ inputs) (first ∷ entries) input entered each =
    ap (λ (rest : List Visit). record_visits editions met first ++ rest) (lane_visits-append editions (at + 1) inputs entries input entered each.1)
    ∙ sym (append_assoc (record_visits editions met first) _ _)

-- the editions of a list of judged packets aren't above this number
abbrev pub AreBelow : List Published → ℕ → List ℕ → Type 0
AreBelow editions top numbers = AllByRecursion (λ number. IfSome (edition_numbered editions number) (λ edition. edition.number ≤ top)) numbers

module _ (editions : List Published) (top : ℕ) where
  -- the last of two lists of packets
  below-append : (visits more : List Visit) → AllByRecursion (λ visit. visit.number ≤ top) visits → AllByRecursion (λ visit. visit.number ≤ top) more → AllByRecursion (λ visit. visit.number ≤ top) (visits ++ more)
  below-append [] more all others = others
  below-append (visit ∷ visits) more all others = (all.0, below-append visits more all.1 others)

  packet_below : (found : Option Published) (packet : AnyIp) (port : Port) (second : ℕ) → IfSome found (λ edition. edition.number ≤ top) → AllByRecursion (λ visit. visit.number ≤ top) (packet_visits found packet port second)
  packet_below None packet port second below = tt
  packet_below (Some edition) packet port second below = (below, tt)

  judged_below : (entered : DocketEntry) (entries : List DocketEntry) → AreBelow editions top (judged_editions (entered ∷ entries)) → IfSome (judging_edition editions entered) (λ edition. edition.number ≤ top) × AreBelow editions top (judged_editions entries)
  judged_below entered entries all = by_judgement (judgement_in entered) refl all
    where
      by_judgement : (judged : Option Judgement) → judgement_in entered ≡ judged → AreBelow editions top (judged_editions (entered ∷ entries))
          → IfSome (option_and_then (λ (one : Judgement). edition_numbered editions one.edition) judged) (λ edition. edition.number ≤ top) × AreBelow editions top (judged_editions entries)
      by_judgement None is all = (tt, rw is at all)
      by_judgement (Some judgement) is all = rw is at all

  record_below : (input : Input) (entered : DocketEntry) → IfSome (judging_edition editions entered) (λ edition. edition.number ≤ top) → AllByRecursion (λ visit. visit.number ≤ top) (record_visits editions input entered)
  record_below Other entered below = tt
  record_below (Malformed kind) entered below = tt
  record_below (Packet packet port second) entered below = packet_below (judging_edition editions entered) packet port second below

  lane_below : (inputs : List Input) (entries : List DocketEntry) → AreBelow editions top (judged_editions entries) → AllByRecursion (λ visit. visit.number ≤ top) (lane_visits editions inputs entries)
  lane_below [] entries all = tt
  lane_below (input ∷ inputs) [] all = tt
  lane_below (input ∷ inputs) (entered ∷ entries) all =
      let split = judged_below entered entries all in
      below-append (record_visits editions input entered) (lane_visits editions inputs entries) (record_below input entered split.0) (lane_below inputs entries split.1)

  last_below : (visits : List Visit) → AllByRecursion (λ visit. visit.number ≤ top) visits → IsNoneBefore (last_number visits) top
  last_below [] all = tt
  last_below (visit ∷ visits) all = last (last_number visits) (last_below visits all.1)
    where
      last : (number : Option ℕ) → IsNoneBefore number top → unwrap_or number visit.number ≤ top
      last None below = all.0
      last (Some number) below = below

-- a cache stands for its packets by its docket's entries alone
CacheStandsFor-entries : (editions : List Published) (docket other : DocketValue) (cache : Option LaneCacheValue) (inputs : List Input) → other.entries ≡ docket.entries → CacheStandsFor editions docket cache inputs → CacheStandsFor editions other cache inputs
CacheStandsFor-entries editions docket other None inputs same stands = tt
CacheStandsFor-entries editions docket other (Some own) inputs same stands =
    subst (λ (entries : List DocketEntry). HasRecent own.kept.capacity (lane_visits editions inputs entries) own) (sym same) stands

module _ (editions : List Published) (docket : DocketValue) (inputs : List Input) (each : EachRecord IsEntryFor 1 inputs docket.entries) where
  -- a record that isn't judged leaves the cache of its lane
  pub CacheStandsFor-skipped : (cache : Option LaneCacheValue) (input : Input) (entered : DocketEntry) (more : DocketValue) → record_visits editions input entered ≡ [] → more.entries ≡ docket.entries ++ entered ∷ []
      → CacheStandsFor editions docket cache inputs → CacheStandsFor editions more cache (inputs ++ input ∷ [])
  CacheStandsFor-skipped None input entered more none is stands = tt
  CacheStandsFor-skipped (Some own) input entered more none is stands =
      let same = lane_visits-append editions 1 inputs docket.entries input entered each ∙ ap (λ (visits : List Visit). lane_visits editions inputs docket.entries ++ visits) none ∙ append-nil _ in
      CacheStandsFor-entries editions (record docket { entries = docket.entries ++ entered ∷ [] }) more (Some own) (inputs ++ input ∷ []) is
      (subst (λ (visits : List Visit). HasRecent own.kept.capacity visits own) (sym same) stands)

  -- one that was judged is behind those before
  pub CacheStandsFor-judged : (before after : Option LaneCacheValue) (edition : Published) (packet : AnyIp) (port : Port) (second : ℕ) (judgement : Judgement) (more : DocketValue)
      → edition_numbered editions judgement.edition ≡ Some edition → AreBelow editions edition.number (judged_editions docket.entries)
      → IsCacheAfter (question_under edition packet port second) before after → more.entries ≡ docket.entries ++ judged_entry judgement ∷ []
      → CacheStandsFor editions docket before inputs → CacheStandsFor editions more after (inputs ++ Packet packet port second ∷ [])
  CacheStandsFor-judged None after edition packet port second judgement more found below sees is stands = subst (λ (o : Option LaneCacheValue). CacheStandsFor editions more o (inputs ++ Packet packet port second ∷ [])) (sym sees) tt
  CacheStandsFor-judged (Some old) None edition packet port second judgement more found below sees is stands = tt
  CacheStandsFor-judged (Some old) (Some new) edition packet port second judgement more found below sees is stands =
      let visits : List Visit = lane_visits editions inputs docket.entries in
      let visit : Visit = visit_of (question_under edition packet port second) in
      let named : judging_edition editions (judged_entry judgement) ≡ Some edition = ap (λ (j : Option Judgement). option_and_then (λ (one : Judgement). edition_numbered editions one.edition) j) (judgement_in-judged judgement) ∙ found in
      let same = lane_visits-append editions 1 inputs docket.entries (Packet packet port second) (judged_entry judgement) each
      ∙ ap (λ (o : Option Published). visits ++ packet_visits o packet port second) named in
      let later = last_below editions edition.number visits (lane_below editions edition.number inputs docket.entries below) in
      let recent : HasRecent new.kept.capacity (visits ++ visit ∷ []) new = subst (λ (n : ℕ). HasRecent n (visits ++ visit ∷ []) new) (sym sees.looked.room) (sees.seen old.kept.capacity visits later stands) in
      CacheStandsFor-entries editions (record docket { entries = docket.entries ++ judged_entry judgement ∷ [] }) more (Some new) (inputs ++ Packet packet port second ∷ []) is
      (subst (λ (v : List Visit). HasRecent new.kept.capacity v new) (sym same) recent)

-- the cache behind a packet has as much room
pub capacity-behind : (edition : Published) (port : Port) (before after : Option LaneCacheValue) → IsCacheBehind edition port before after → capacity_of after ≡ capacity_of before
capacity-behind edition port None after is = ap capacity_of is
capacity-behind edition port (Some old) None is = absurd is
capacity-behind edition port (Some old) (Some new) (inl same) = ap (λ (own : LaneCacheValue). Some own.kept.capacity) same
capacity-behind edition port (Some old) (Some new) (inr looked) = ap Some looked.room

-- and is of the same port
pub IsPortFor-behind : (edition : Published) (port : Port) (before after : Option LaneCacheValue) → IsCacheBehind edition port before after → IsPortFor before port → IsPortFor after port
IsPortFor-behind edition port None after is at = subst (λ (o : Option LaneCacheValue). IsPortFor o port) (sym is) tt
IsPortFor-behind edition port (Some old) None is at = tt
IsPortFor-behind edition port (Some old) (Some new) (inl same) at = subst (λ (own : LaneCacheValue). IsPortOf own port) (sym same) at
IsPortFor-behind edition port (Some old) (Some new) (inr looked) at = subst (λ (o : Option Port). IfSome o (λ own. own ≡ port)) (sym looked.port_is) refl

-- the port that a cache keeps verdicts for is the one where it may be looked into
keeps_at : (edition : Published) (cache : LaneCacheValue) (port : Port) → KeepsUnder edition cache → IsPortOf cache port → KeepsVerdicts edition port cache.kept
keeps_at edition cache port keeps at = by_port cache.port keeps at
  where
    by_port : (own : Option Port) → IsSomeAnd own (λ p. KeepsVerdicts edition p cache.kept) → IfSome own (λ p. p ≡ port) → KeepsVerdicts edition port cache.kept
    by_port None keeps at = absurd keeps
    by_port (Some own) keeps at = subst (λ (p : Port). KeepsVerdicts edition p cache.kept) at keeps

keeps_of : (edition : Published) (cache : LaneCacheValue) (port : Port) → cache.port ≡ Some port → KeepsVerdicts edition port cache.kept → KeepsUnder edition cache
keeps_of edition cache port is keeps = subst (λ (o : Option Port). IsSomeAnd o (λ p. KeepsVerdicts edition p cache.kept)) (sym is) keeps

-- nothing is kept for an edition of another number
keeps_nothing : (edition : Published) (port : Port) (kept : Kept KeptVerdict) → is_given kept.number edition.number ≡ false → KeepsVerdicts edition port kept
keeps_nothing edition port kept other = rw other tt

-- What a cache keeps under one of these editions is true under the edition of its own number.
pub IsTrueFor-among : (editions : List Published) (edition : Published) (cache : Option LaneCacheValue) → edition_numbered editions edition.number ≡ Some edition → IsCacheAmong editions cache → IsTrueFor edition cache
IsTrueFor-among editions edition None found is = tt
IsTrueFor-among editions edition (Some own) found is = λ port at. by_number own.kept.number refl is port at
  where
    same_edition : (one : Option Published) → one ≡ Some edition → IsSomeAnd one (λ e. KeepsUnder e own) → KeepsUnder edition own
    same_edition one same keeps = rw same at keeps

    by_number : (last : Option ℕ) → own.kept.number ≡ last → IfSome last (λ number. IsSomeAnd (edition_numbered editions number) (λ e. KeepsUnder e own)) → (port : Port) → IsPortOf own port → KeepsVerdicts edition port own.kept
    by_number None given is port at = keeps_nothing edition port own.kept (rw given refl)
    by_number (Some number) given is port at = decided (number == edition.number) refl
      where
        decided : (b : Bool) → b ≡ (number == edition.number) → KeepsVerdicts edition port own.kept
        decided true same =
            let equal : number ≡ edition.number = eqb_yes (subst T same tt) in
            keeps_at edition own port (same_edition (edition_numbered editions number) (ap (edition_numbered editions) equal ∙ found) is) at
        decided false other = keeps_nothing edition port own.kept (rw given (sym other))

-- The cache behind a packet keeps what is true under one of these editions.
pub IsCacheAmong-behind : (editions : List Published) (edition : Published) (port : Port) (before after : Option LaneCacheValue) → edition_numbered editions edition.number ≡ Some edition → IsPortFor before port
    → IsCacheBehind edition port before after → IsCacheAmong editions before → IsCacheAmong editions after
IsCacheAmong-behind editions edition port None after found at is among = subst (λ (o : Option LaneCacheValue). IsCacheAmong editions o) (sym is) tt
IsCacheAmong-behind editions edition port (Some old) None found at is among = tt
IsCacheAmong-behind editions edition port (Some old) (Some new) found at (inl same) among = subst (λ (own : LaneCacheValue). IsCacheAmong editions (Some own)) (sym same) among
IsCacheAmong-behind editions edition port (Some old) (Some new) found at (inr looked) among = by_given looked.given
  where
    by_last : (last : Option ℕ) → new.kept ≡ old.kept → IfSome last (λ number. IsSomeAnd (edition_numbered editions number) (λ e. KeepsUnder e old)) → IfSome last (λ number. IsSomeAnd (edition_numbered editions number) (λ e. KeepsUnder e new))
    by_last None same is = tt
    by_last (Some number) same is = by_edition (edition_numbered editions number) is
      where
        by_edition : (one : Option Published) → IsSomeAnd one (λ e. KeepsUnder e old) → IsSomeAnd one (λ e. KeepsUnder e new)
        by_edition None is = is
        by_edition (Some e) is = keeps_of e new port looked.port_is (subst (λ (k : Kept KeptVerdict). KeepsVerdicts e port k) (sym same) (keeps_at e old port is at))

    by_given : (new.kept ≡ old.kept) ⊎ (new.kept.number ≡ Some edition.number) → IsCacheAmong editions (Some new)
    by_given (inl same) =
        subst (λ (last : Option ℕ). IfSome last (λ number. IsSomeAnd (edition_numbered editions number) (λ e. KeepsUnder e new))) (sym (ap (λ (k : Kept KeptVerdict). k.number) same))
        (by_last old.kept.number same among)
    by_given (inr given) =
        let own : IsPortOf new port = subst (λ (o : Option Port). IfSome o (λ p. p ≡ port)) (sym looked.port_is) refl in
        subst (λ (last : Option ℕ). IfSome last (λ number. IsSomeAnd (edition_numbered editions number) (λ e. KeepsUnder e new))) (sym given)
        (subst (λ (o : Option Published). IsSomeAnd o (λ e. KeepsUnder e new)) (sym found) (keeps_of edition new port looked.port_is (looked.kept port own)))

-- What a lane saw tells it of every list of editions that has that.
pub IsCacheAmong-seen : (editions : List Published) (seen : List (ℕ × Configuration)) (cache : Option LaneCacheValue) → AreSeenOf editions seen → IsCacheSeen seen cache → IsCacheAmong editions cache
IsCacheAmong-seen editions seen None are is = tt
IsCacheAmong-seen editions seen (Some own) are is = by_last own.kept.number is
  where
    by_last : (last : Option ℕ) → IfSome last (λ number. KeepsSeen seen number own) → IfSome last (λ number. IsSomeAnd (edition_numbered editions number) (λ e. KeepsUnder e own))
    by_last None is = tt
    by_last (Some number) is = by_edition (edition_numbered editions number) (are is.place number is.config is.pair)
      where
        by_edition : (one : Option Published) → IsSomeAnd one (IsBuilt number is.config) → IsSomeAnd one (λ e. KeepsUnder e own)
        by_edition None built = built
        by_edition (Some e) built = is.kept e built

module _ (seen : List (ℕ × Configuration)) (edition : Published) (factual : IsEdition edition) (one : (place : ℕ) (config : Configuration) → slice_get seen place ≡ Some (edition.number, config) → config ≡ edition.config) where
  -- Under an edition that was seen all that a cache keeps is true, where no other configuration was seen under its number.
  pub IsTrueFor-seen : (cache : Option LaneCacheValue) → IsCacheSeen seen cache → IsTrueFor edition cache
  IsTrueFor-seen None is = tt
  IsTrueFor-seen (Some own) is = λ port at. by_number own.kept.number refl is port at
    where
      by_number : (last : Option ℕ) → own.kept.number ≡ last → IfSome last (λ number. KeepsSeen seen number own) → (port : Port) → IsPortOf own port → KeepsVerdicts edition port own.kept
      by_number None given is port at = keeps_nothing edition port own.kept (rw given refl)
      by_number (Some number) given is port at = decided (number == edition.number) refl
        where
          decided : (b : Bool) → b ≡ (number == edition.number) → KeepsVerdicts edition port own.kept
          decided true same =
              let equal : number ≡ edition.number = eqb_yes (subst T same tt) in
              let config : is.config ≡ edition.config = one is.place is.config (subst (λ (n : ℕ). slice_get seen is.place ≡ Some (n, is.config)) equal is.pair) in
              keeps_at edition own port (is.kept edition (record { numbered = sym equal; configured = sym config; factual = factual })) at
          decided false other = keeps_nothing edition port own.kept (rw given (sym other))

  -- The cache behind a packet keeps what is true under what was seen, where its edition was.
  pub IsCacheSeen-behind : (port : Port) (before after : Option LaneCacheValue) (place : ℕ) → slice_get seen place ≡ Some (edition.number, edition.config) → IsPortFor before port → IsCacheBehind edition port before after
      → IsCacheSeen seen before → IsCacheSeen seen after
  IsCacheSeen-behind port None after place there at is among = subst (λ (o : Option LaneCacheValue). IsCacheSeen seen o) (sym is) tt
  IsCacheSeen-behind port (Some old) None place there at is among = tt
  IsCacheSeen-behind port (Some old) (Some new) place there at (inl same) among = subst (λ (own : LaneCacheValue). IsCacheSeen seen (Some own)) (sym same) among
  IsCacheSeen-behind port (Some old) (Some new) place there at (inr looked) among = by_given looked.given
    where
      by_last : (last : Option ℕ) → new.kept ≡ old.kept → IfSome last (λ number. KeepsSeen seen number old) → IfSome last (λ number. KeepsSeen seen number new)
      by_last None same is = tt
      by_last (Some number) same is = record {
        place = is.place;
        config = is.config;
        pair = is.pair;
        kept = λ e built. keeps_of e new port looked.port_is (subst (λ (k : Kept KeptVerdict). KeepsVerdicts e port k) (sym same) (keeps_at e old port (is.kept e built) at));
      }

      by_given : (new.kept ≡ old.kept) ⊎ (new.kept.number ≡ Some edition.number) → IsCacheSeen seen (Some new)
      by_given (inl same) = subst (λ (last : Option ℕ). IfSome last (λ number. KeepsSeen seen number new)) (sym (ap (λ (k : Kept KeptVerdict). k.number) same)) (by_last old.kept.number same among)
      by_given (inr given) =
          let own : IsPortOf new port = subst (λ (o : Option Port). IfSome o (λ p. p ≡ port)) (sym looked.port_is) refl in
          subst (λ (last : Option ℕ). IfSome last (λ number. KeepsSeen seen number new)) (sym given) (record {
            place = place;
            config = edition.config;
            pair = there;
            kept = λ e built.
                subst (λ (e : Published). KeepsUnder e new) (same_edition edition e (sym built.numbered) (sym built.configured) factual built.factual) (keeps_of edition new port looked.port_is (looked.kept port own));
          })

-- a new cache, or none, stands for no input
pub CacheStandsFor-none : (editions : List Published) (cache : Option ℕ) → CacheStandsFor editions (record { entries = []; refused = 0 }) (first_cache cache) []
CacheStandsFor-none editions None = tt
CacheStandsFor-none editions (Some capacity) = has_recent_open capacity
