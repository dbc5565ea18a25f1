-- An IPv4 packet that is looked up: what it hits, and what the cache keeps behind it.
use Rattle.std.proofs.Common.{◌≡◌, ℕ, false, is_some, IfSome, Option, Some, None, [], refl, ap, sym, ◌∙◌, subst}
use Rattle.fw_base.specs.declared.port.Port.{Port}
use Rattle.ip6_headers.specs.declared.any_ip.AnyIp.{AnyIp}
use Rattle.ip6_headers.specs.declared.any_ip.AnyIp.TheVariants.{Four}
use Rattle.packet_headers.specs.Fields.{Fields}
use Rattle.verdict_cache.specs.Cache.{Kept, at_number, kept_value_of, with_key_first}
use Rattle.verdict_cache.specs.Key.{key_of}
use Rattle.verdict_cache.specs.declared.key.Key.{Key}
use Rattle.generation_store.specs.Published.{Published}
use Rattle.eval_engine.specs.Evaluation.{evaluate}
use Rattle.eval_engine.specs.Question.{Question, question_under}
use Rattle.cached_verdicts.specs.LaneCache.{with_value, kept_by_key, IsVisited, IsToKeep}
use Rattle.cached_verdicts.specs.Verdicts.{evaluated_at_once, IsVerdictOf, KeepsVerdicts}
use Rattle.cached_verdicts.specs.Visits.{visit_of}
use Rattle.cached_verdicts.specs.declared.kept_verdict.KeptVerdict.{KeptVerdict}
use Rattle.cached_verdicts.proofs.Truth.{verdict_of_key, true_look, true_looked, true_kept}

module _ (edition : Published) (port : Port) (packet : AnyIp) (ip : Fields) (second : ℕ) (key : Key) (number : ℕ) (old : Kept KeptVerdict) (four : packet ≡ Four ip) (keyed : key ≡ key_of ip) (numbered : number ≡ edition.number) where
  abbrev asked : Question
  asked = question_under edition packet port second

  -- what is found is the packet's evaluation
  pub hit_once : (verdict : KeptVerdict) → KeepsVerdicts edition port old → Some verdict ≡ kept_value_of key (at_number number old) → evaluate asked [] ≡ evaluated_at_once verdict
  hit_once verdict h found =
      let there : Some verdict ≡ kept_value_of key (at_number edition.number old) = found ∙ ap (λ (n : ℕ). kept_value_of key (at_number n old)) numbered in
      ap (λ (p : AnyIp). evaluate (question_under edition p port second) []) four
      ∙ true_look edition port key old verdict h there ip second (sym keyed)

  -- a look leaves what is true
  pub keeps_looked : (looked : Kept KeptVerdict) → KeepsVerdicts edition port old → looked ≡ with_key_first key (at_number number old) → KeepsVerdicts edition port looked
  keeps_looked looked h is =
      subst (λ (k : Kept KeptVerdict). KeepsVerdicts edition port k) (sym (is ∙ ap (λ (n : ℕ). with_key_first key (at_number n old)) numbered)) (true_looked edition port key old h)

  of_key : (value : Option KeptVerdict) → IfSome value (λ kept. evaluate (question_under edition (Four ip) port second) [] ≡ evaluated_at_once kept) → IfSome value (λ v. IsVerdictOf edition port key v)
  of_key None once = tt
  of_key (Some verdict) once = subst (λ (k : Key). IsVerdictOf edition port k verdict) (sym keyed) (verdict_of_key edition port ip second verdict once)

  -- and what is kept is true
  pub keeps_kept : (value : Option KeptVerdict) (looked new : Kept KeptVerdict) → KeepsVerdicts edition port old → IsToKeep (question_under edition (Four ip) port second) value
      → looked ≡ with_key_first key (at_number number old) → new ≡ with_value key value looked → KeepsVerdicts edition port new
  keeps_kept value looked new h to_keep is now =
      let all : new ≡ with_value key value (with_key_first key (at_number edition.number old)) =
      now ∙ ap (λ (k : Kept KeptVerdict). with_value key value k) (is ∙ ap (λ (n : ℕ). with_key_first key (at_number n old)) numbered) in
      subst (λ (k : Kept KeptVerdict). KeepsVerdicts edition port k) (sym all) (true_kept edition port key old value h (of_key value to_keep.once))

  missed_by : (value : Option KeptVerdict) → kept_value_of (key_of ip) (at_number edition.number old) ≡ None
      → with_value (key_of ip) value (with_key_first (key_of ip) (at_number edition.number old)) ≡ kept_by_key (key_of ip) edition.number value old
  missed_by value none = rw none refl

  not_found : kept_value_of (key_of ip) (at_number edition.number old) ≡ None → false ≡ is_some (kept_value_of (key_of ip) (at_number edition.number old))
  not_found none = rw none refl

  -- a packet that isn't found is evaluated, and its value kept where it may be
  pub missed_visited : (value : Option KeptVerdict) (looked new : Kept KeptVerdict) → IsToKeep (question_under edition (Four ip) port second) value → None ≡ kept_value_of key (at_number number old)
      → looked ≡ with_key_first key (at_number number old) → new ≡ with_value key value looked → IsVisited (visit_of asked) false old new
  missed_visited value looked new to_keep none is now =
      let missing : kept_value_of (key_of ip) (at_number edition.number old) ≡ None = sym (none ∙ (λ i. kept_value_of (keyed i) (at_number (numbered i) old))) in
      let all : new ≡ with_value (key_of ip) value (with_key_first (key_of ip) (at_number edition.number old)) =
      now ∙ ap (λ (k : Kept KeptVerdict). with_value key value k) is ∙ (λ i. with_value (keyed i) value (with_key_first (keyed i) (at_number (numbered i) old))) in
      subst (λ (p : AnyIp). IsVisited (visit_of (question_under edition p port second)) false old new) (sym four)
      (record {
        value = value;
        fits = to_keep.fits;
        now = all ∙ missed_by value missing;
        hit = not_found missing;
      })
