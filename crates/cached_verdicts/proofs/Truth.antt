-- What a cache keeps is true of packets of its keys.
use Rattle.std.proofs.Common.{◌≡◌, ℕ, zero, suc, Bool, true, false, nat_eq, IfSome, Option, Some, None, List, [], ◌∷◌, take, refl, ap, sym, ◌∙◌, arith, subst}
use Rattle.std.proofs.lemmas.Bool.{eq-eqb}
use Rattle.std.specs.List.{AllByRecursion}
use Rattle.std.specs.Map.{lookup, lookup_entry, remove_entry}
use Rattle.fw_base.specs.declared.port.Port.{Port}
use Rattle.lru.specs.LruCache.{promoted}
use Rattle.packet_headers.specs.Fields.{Fields}
use Rattle.ip6_headers.specs.declared.any_ip.AnyIp.TheVariants.{Four}
use Rattle.verdict_cache.specs.Cache.{Kept, at_number, kept_value_of, with_key_first, with_pair}
use Rattle.verdict_cache.specs.Key.{key_of, same_key}
use Rattle.verdict_cache.specs.declared.key.Key.{Key}
use Rattle.verdict_cache.proofs.SameKey.{same_key-equal}
use Rattle.generation_store.specs.Published.{Published}
use Rattle.eval_engine.specs.Evaluated.{Evaluated}
use Rattle.eval_engine.specs.Evaluation.{evaluate}
use Rattle.eval_engine.specs.Question.{question_under}
use Rattle.cached_verdicts.specs.LaneCache.{with_value}
use Rattle.cached_verdicts.specs.Laws.{OtherEditionsKeepNothing}
use Rattle.cached_verdicts.specs.Verdicts.{evaluated_at_once, IsVerdictOf, KeepsVerdicts}
use Rattle.cached_verdicts.specs.declared.kept_verdict.KeptVerdict.{KeptVerdict}
use Rattle.cached_verdicts.proofs.Alike.{equal_keys_evaluate_alike}

-- nothing is kept under another number
pub other_editions_keep_nothing : OtherEditionsKeepNothing
other_editions_keep_nothing edition port kept other = rw other tt

-- what is so of one packet is so of each of its key
pub verdict_of_key : (edition : Published) (port : Port) (packet : Fields) (second : ℕ) (kept : KeptVerdict) → evaluate (question_under edition (Four packet) port second) [] ≡ evaluated_at_once kept
    → IsVerdictOf edition port (key_of packet) kept
verdict_of_key edition port packet second kept once other later same =
    equal_keys_evaluate_alike edition port packet other second later (sym same) (ap (λ (e : Evaluated). e.asks) once) ∙ once

module _ (edition : Published) (port : Port) where
  abbrev IsTrue : Key × KeptVerdict → Type 0
  IsTrue pair = IsVerdictOf edition port pair.0 pair.1

  true_found : (key : Key) (pairs : List (Key × KeptVerdict)) (kept : KeptVerdict) → AllByRecursion IsTrue pairs → lookup (same_key key) pairs ≡ Some kept → IsVerdictOf edition port key kept
  true_found key [] kept h is = absurd (grind arith)
  true_found key (pair ∷ pairs) kept h is = go (true_found key pairs kept h.1) (same_key key pair.0) refl
    where
      go : (lookup (same_key key) pairs ≡ Some kept → IsVerdictOf edition port key kept) → (same : Bool) → same_key key pair.0 ≡ same → IsVerdictOf edition port key kept
      go rest true same =
          let found : Some pair.1 ≡ Some kept = rw same at is in
          let value : pair.1 ≡ kept = grind arith in
          let keyed : pair.0 ≡ key = sym (same_key-equal key pair.0 same) in
          subst (λ (v : KeptVerdict). IsVerdictOf edition port key v) value (subst (λ (k : Key). IsVerdictOf edition port k pair.1) keyed h.0)
      go rest false same = rest (rw same at is)

  true_removed : (test : Key → Bool) (pairs : List (Key × KeptVerdict)) → AllByRecursion IsTrue pairs → AllByRecursion IsTrue (remove_entry test pairs)
  true_removed test [] h = tt
  true_removed test (pair ∷ pairs) h = go (true_removed test pairs h.1) (test pair.0) refl
    where
      go : AllByRecursion IsTrue (remove_entry test pairs) → (b : Bool) → test pair.0 ≡ b → AllByRecursion IsTrue (remove_entry test (pair ∷ pairs))
      go rest true is = rw is h.1
      go rest false is = rw is (h.0, rest)

  true_entry : (test : Key → Bool) (pairs : List (Key × KeptVerdict)) → AllByRecursion IsTrue pairs → IfSome (lookup_entry test pairs) IsTrue
  true_entry test [] h = tt
  true_entry test (pair ∷ pairs) h = go (true_entry test pairs h.1) (test pair.0) refl
    where
      go : IfSome (lookup_entry test pairs) IsTrue → (b : Bool) → test pair.0 ≡ b → IfSome (lookup_entry test (pair ∷ pairs)) IsTrue
      go rest true is = rw is h.0
      go rest false is = rw is rest

  true_first : (test : Key → Bool) (pairs : List (Key × KeptVerdict)) → AllByRecursion IsTrue pairs → AllByRecursion IsTrue (promoted test pairs)
  true_first test pairs h = go (lookup_entry test pairs) refl (true_entry test pairs h)
    where
      go : (entry : Option (Key × KeptVerdict)) → lookup_entry test pairs ≡ entry → IfSome (lookup_entry test pairs) IsTrue → AllByRecursion IsTrue (promoted test pairs)
      go None is e = rw is h
      go (Some pair) is e = let holds : IsTrue pair = rw is at e in rw is (holds, true_removed test pairs h)

  true_taken : (n : ℕ) (pairs : List (Key × KeptVerdict)) → AllByRecursion IsTrue pairs → AllByRecursion IsTrue (take n pairs)
  true_taken zero pairs h = tt
  true_taken (suc n) [] h = tt
  true_taken (suc n) (pair ∷ pairs) h = (h.0, true_taken n pairs h.1)

  at_own : (kept : Kept KeptVerdict) → kept.number ≡ Some edition.number → AllByRecursion IsTrue kept.pairs → KeepsVerdicts edition port kept
  at_own kept is h = let same : nat_eq edition.number edition.number ≡ true = eq-eqb edition.number edition.number refl in rw (is, same) h

  -- what a look finds is true
  pub true_look : (key : Key) (old : Kept KeptVerdict) (kept : KeptVerdict) → KeepsVerdicts edition port old → Some kept ≡ kept_value_of key (at_number edition.number old) → IsVerdictOf edition port key kept
  true_look key old kept h is = true_found key (at_number edition.number old).pairs kept h (sym is)

  -- after a look
  pub true_looked : (key : Key) (old : Kept KeptVerdict) → KeepsVerdicts edition port old → KeepsVerdicts edition port (with_key_first key (at_number edition.number old))
  true_looked key old h = at_own (with_key_first key (at_number edition.number old)) refl (true_first (same_key key) (at_number edition.number old).pairs h)

  -- after a look that missed, with what is kept
  pub true_kept : (key : Key) (old : Kept KeptVerdict) (value : Option KeptVerdict) → KeepsVerdicts edition port old → IfSome value (λ v. IsVerdictOf edition port key v)
      → KeepsVerdicts edition port (with_value key value (with_key_first key (at_number edition.number old)))
  true_kept key old None h is = true_looked key old h
  true_kept key old (Some value) h is =
      at_own (with_pair key value (with_key_first key (at_number edition.number old))) refl
      (true_taken old.capacity ((key, value) ∷ promoted (same_key key) (at_number edition.number old).pairs) (is, true_first (same_key key) (at_number edition.number old).pairs h))
