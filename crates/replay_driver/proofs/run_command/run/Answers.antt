use Rattle.std.proofs.Common.{map}
use Rattle.std.specs.Prelude.{string_bytes}
use Rattle.replay_driver.specs.Served.{job_of}
use Rattle.replay_driver.proofs.Complete.{all_complete}
use Rattle.replay_driver.proofs.LoadWords.{job_within}
use Rattle.replay_driver.proofs.Promised.{all_kept, all_quiet, all_1, all_unready, all_refused, all_faulty, all_unread, all_failed, all_risen, all_silent, all_openings, all_steady, all_unopened}
use Rattle.replay_driver.proofs.SameAnswer.{run_beside, same_run, same_kept, same_unready, same_unread, same_complete}
use Rattle.replay_driver.proofs.run_command.run.Goals as goal

pub returns-clause-usage : goal.returns-clause-usage
returns-clause-usage g c =
    let told = run_beside _ _
    c.run_words.new.library c.run_words.new.out (job_of (map string_bytes c.args.words.now)) c.run_words.result
    _ c.args.library.now _ c.args.out.now (cc) (cc) c.run_words.ensures.found c.run_words.ensures.usage in
    told.1

pub returns-clause-found : goal.returns-clause-found
returns-clause-found g c =
    let told = run_beside _ _
    c.run_words.new.library c.run_words.new.out (job_of (map string_bytes c.args.words.now)) c.run_words.result
    _ c.args.library.now _ c.args.out.now (cc) (cc) c.run_words.ensures.found c.run_words.ensures.usage in
    same_run _ _
    c.args.library.now c.run_words.new.library c.args.out.now c.run_words.new.out (job_of (map string_bytes c.args.words.now)) c.run_words.result _ (cc) told.0

pub returns-clause-report : goal.returns-clause-report
returns-clause-report g c =
    let told = run_beside _ _
    c.run_words.new.library c.run_words.new.out (job_of (map string_bytes c.args.words.now)) c.run_words.result
    _ c.args.library.now _ c.args.out.now (cc) (cc) c.run_words.ensures.found c.run_words.ensures.usage in
    same_kept _ _
    c.args.library.now c.run_words.new.library c.args.out.now c.run_words.new.out (job_of (map string_bytes c.args.words.now)) c.run_words.result _ (cc)
    (all_kept _ _ c.args.library.now c.run_words.new.library c.args.out.now c.run_words.new.out c.run_words.result (job_of (map string_bytes c.args.words.now)) told.0 told.1)

pub returns-clause-status_0_cause : goal.returns-clause-status_0_cause
returns-clause-status_0_cause g c =
    let told = run_beside _ _
    c.run_words.new.library c.run_words.new.out (job_of (map string_bytes c.args.words.now)) c.run_words.result
    _ c.args.library.now _ c.args.out.now (cc) (cc) c.run_words.ensures.found c.run_words.ensures.usage in
    all_quiet _ _
    c.args.library.now c.run_words.new.library c.args.out.now c.run_words.new.out c.run_words.result (job_of (map string_bytes c.args.words.now)) told.0 told.1

pub returns-clause-status_1_cause : goal.returns-clause-status_1_cause
returns-clause-status_1_cause g c =
    let told = run_beside _ _
    c.run_words.new.library c.run_words.new.out (job_of (map string_bytes c.args.words.now)) c.run_words.result
    _ c.args.library.now _ c.args.out.now (cc) (cc) c.run_words.ensures.found c.run_words.ensures.usage in
    all_1 _ _
    c.args.library.now c.run_words.new.library c.args.out.now c.run_words.new.out c.run_words.result (job_of (map string_bytes c.args.words.now)) told.0 told.1

pub returns-clause-status_2_before : goal.returns-clause-status_2_before
returns-clause-status_2_before g c =
    let told = run_beside _ _
    c.run_words.new.library c.run_words.new.out (job_of (map string_bytes c.args.words.now)) c.run_words.result
    _ c.args.library.now _ c.args.out.now (cc) (cc) c.run_words.ensures.found c.run_words.ensures.usage in
    same_unready _ _
    c.args.library.now c.run_words.new.library c.args.out.now c.run_words.new.out (job_of (map string_bytes c.args.words.now)) c.run_words.result _ (cc)
    (all_unready _ _ c.args.library.now c.run_words.new.library c.args.out.now c.run_words.new.out c.run_words.result (job_of (map string_bytes c.args.words.now)) told.0 told.1 (job_within (map string_bytes c.args.words.now)))

pub returns-clause-status_2_with_record : goal.returns-clause-status_2_with_record
returns-clause-status_2_with_record g c =
    let told = run_beside _ _
    c.run_words.new.library c.run_words.new.out (job_of (map string_bytes c.args.words.now)) c.run_words.result
    _ c.args.library.now _ c.args.out.now (cc) (cc) c.run_words.ensures.found c.run_words.ensures.usage in
    all_refused _ _
    c.args.library.now c.run_words.new.library c.args.out.now c.run_words.new.out c.run_words.result (job_of (map string_bytes c.args.words.now)) told.0 told.1

pub returns-clause-status_3_cause : goal.returns-clause-status_3_cause
returns-clause-status_3_cause g c =
    let told = run_beside _ _
    c.run_words.new.library c.run_words.new.out (job_of (map string_bytes c.args.words.now)) c.run_words.result
    _ c.args.library.now _ c.args.out.now (cc) (cc) c.run_words.ensures.found c.run_words.ensures.usage in
    all_faulty _ _
    c.args.library.now c.run_words.new.library c.args.out.now c.run_words.new.out c.run_words.result (job_of (map string_bytes c.args.words.now)) told.0 told.1

pub returns-clause-status_4_before : goal.returns-clause-status_4_before
returns-clause-status_4_before g c =
    let told = run_beside _ _
    c.run_words.new.library c.run_words.new.out (job_of (map string_bytes c.args.words.now)) c.run_words.result
    _ c.args.library.now _ c.args.out.now (cc) (cc) c.run_words.ensures.found c.run_words.ensures.usage in
    same_unread _ _
    c.args.library.now c.run_words.new.library c.args.out.now c.run_words.new.out (job_of (map string_bytes c.args.words.now)) c.run_words.result _ (cc)
    (all_unread _ _ c.args.library.now c.run_words.new.library c.args.out.now c.run_words.new.out c.run_words.result (job_of (map string_bytes c.args.words.now)) told.0 told.1)

pub returns-clause-status_4_with_record : goal.returns-clause-status_4_with_record
returns-clause-status_4_with_record g c =
    let told = run_beside _ _
    c.run_words.new.library c.run_words.new.out (job_of (map string_bytes c.args.words.now)) c.run_words.result
    _ c.args.library.now _ c.args.out.now (cc) (cc) c.run_words.ensures.found c.run_words.ensures.usage in
    all_failed _ _
    c.args.library.now c.run_words.new.library c.args.out.now c.run_words.new.out c.run_words.result (job_of (map string_bytes c.args.words.now)) told.0 told.1

pub returns-clause-status_5_cause : goal.returns-clause-status_5_cause
returns-clause-status_5_cause g c =
    let told = run_beside _ _
    c.run_words.new.library c.run_words.new.out (job_of (map string_bytes c.args.words.now)) c.run_words.result
    _ c.args.library.now _ c.args.out.now (cc) (cc) c.run_words.ensures.found c.run_words.ensures.usage in
    all_risen _ _
    c.args.library.now c.run_words.new.library c.args.out.now c.run_words.new.out c.run_words.result (job_of (map string_bytes c.args.words.now)) told.0 told.1

pub returns-clause-status_6_silent : goal.returns-clause-status_6_silent
returns-clause-status_6_silent g c =
    let told = run_beside _ _
    c.run_words.new.library c.run_words.new.out (job_of (map string_bytes c.args.words.now)) c.run_words.result
    _ c.args.library.now _ c.args.out.now (cc) (cc) c.run_words.ensures.found c.run_words.ensures.usage in
    all_silent _ _
    c.args.library.now c.run_words.new.library c.args.out.now c.run_words.new.out c.run_words.result (job_of (map string_bytes c.args.words.now)) told.0 told.1

pub returns-clause-openings : goal.returns-clause-openings
returns-clause-openings g c =
    let told = run_beside _ _
    c.run_words.new.library c.run_words.new.out (job_of (map string_bytes c.args.words.now)) c.run_words.result
    _ c.args.library.now _ c.args.out.now (cc) (cc) c.run_words.ensures.found c.run_words.ensures.usage in
    assumption (all_openings _ _ c.args.library.now c.run_words.new.library c.args.out.now c.run_words.new.out c.run_words.result (job_of (map string_bytes c.args.words.now)) told.0 told.1)

pub returns-clause-nothing_opened : goal.returns-clause-nothing_opened
returns-clause-nothing_opened g c =
    let told = run_beside _ _
    c.run_words.new.library c.run_words.new.out (job_of (map string_bytes c.args.words.now)) c.run_words.result
    _ c.args.library.now _ c.args.out.now (cc) (cc) c.run_words.ensures.found c.run_words.ensures.usage in
    all_unopened _ _
    c.args.library.now c.run_words.new.library c.args.out.now c.run_words.new.out c.run_words.result (job_of (map string_bytes c.args.words.now)) told.0 told.1

pub returns-clause-no_second_try : goal.returns-clause-no_second_try
returns-clause-no_second_try g c =
    let told = run_beside _ _
    c.run_words.new.library c.run_words.new.out (job_of (map string_bytes c.args.words.now)) c.run_words.result
    _ c.args.library.now _ c.args.out.now (cc) (cc) c.run_words.ensures.found c.run_words.ensures.usage in
    all_steady _ _
    c.args.library.now c.run_words.new.library c.args.out.now c.run_words.new.out c.run_words.result (job_of (map string_bytes c.args.words.now)) told.0 told.1

pub returns-clause-complete : goal.returns-clause-complete
returns-clause-complete g c =
    let told = run_beside _ _
    c.run_words.new.library c.run_words.new.out (job_of (map string_bytes c.args.words.now)) c.run_words.result
    _ c.args.library.now _ c.args.out.now (cc) (cc) c.run_words.ensures.found c.run_words.ensures.usage in
    same_complete _ _
    c.args.library.now c.run_words.new.library c.args.out.now c.run_words.new.out (job_of (map string_bytes c.args.words.now)) c.run_words.result _ (cc)
    (all_complete _ _ c.args.library.now c.run_words.new.library c.args.out.now c.run_words.new.out c.run_words.result (job_of (map string_bytes c.args.words.now)) (job_within (map string_bytes c.args.words.now)) told.0)
