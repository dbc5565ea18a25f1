-- fewer replies, then fewer calls that may be made, then fewer rules are left; then what is done with one rule
use Rattle.std.proofs.Common.{◌+◌, ◌*◌, ◌-◌, length}
use Rattle.evaluation_laws.proofs.running.+runs.Given as goal

abbrev pub decreases-meet : goal.decreases-meet
decreases-meet l = ((length l.replies.now * 17 + (16 - l.depth)) * 65536 + (65535 - l.place)) * 8 + 5

abbrev pub decreases-look : goal.decreases-look
decreases-look l = ((length l.replies.now * 17 + (16 - l.depth)) * 65536 + (65535 - l.place)) * 8 + 4

abbrev pub decreases-test : goal.decreases-test
decreases-test l = ((length l.replies.now * 17 + (16 - l.depth)) * 65536 + (65535 - l.place)) * 8 + 3

abbrev pub decreases-install : goal.decreases-install
decreases-install l = ((length l.replies.now * 17 + (16 - l.depth)) * 65536 + (65535 - l.place)) * 8 + 2

abbrev pub decreases-act : goal.decreases-act
decreases-act l = ((length l.replies.now * 17 + (16 - l.depth)) * 65536 + (65535 - l.place)) * 8 + 1

abbrev pub decreases-call : goal.decreases-call
decreases-call l = ((length l.replies.now * 17 + (16 - l.depth)) * 65536 + (65535 - l.place)) * 8
