-- The load: a script, and a capture of as many records as the number says.
use Rattle.std.specs.Prelude.{ℕ, zero, suc, ◌+◌, ◌-◌, ◌*◌, ◌/◌, ◌%◌, ◌^◌, List, [], ◌∷◌, ◌++◌, codes}
use Rattle.std.specs.Fmt.{decimal}
use Rattle.load_maker.specs.Packets.{packet_of, load_record}

-- The generator's next number; what it gives are the upper 31 bits.
abbrev pub next_draw : ℕ → ℕ
next_draw x = (x * 6364136223846793005 + 1442695040888963407) % 2 ^ 64

-- what the generator gives in this state
abbrev pub generator_output : ℕ → ℕ
generator_output x = x / 2 ^ 33

-- the second of a record, ten of them in each
abbrev pub second_of : ℕ → ℕ
second_of number = 1000 + (number - 1) / 10

-- the record of that number, for which the generator has drawn first, second and third
abbrev pub record_drawn : ℕ → ℕ → ℕ → ℕ → List ℕ
record_drawn number first second third = load_record (second_of number) (packet_of (generator_output first % 4) (generator_output second % 200) (generator_output third % 1000 + 1024))

-- so many records from that number on, the generator standing at x
unfoldable pub records_from : ℕ → ℕ → ℕ → List ℕ
records_from zero number x = []
records_from (suc more) number x =
    record_drawn number (next_draw x) (next_draw (next_draw x)) (next_draw (next_draw (next_draw x)))
    ++ records_from more (number + 1) (next_draw (next_draw (next_draw x)))

-- the header of a raw capture: little-endian, microseconds, link type 101
abbrev pub capture_header : List ℕ
capture_header =
    0xd4 ∷ 0xc3 ∷ 0xb2 ∷ 0xa1 ∷ 2 ∷ 0 ∷ 4 ∷ 0 ∷ 0 ∷ 0 ∷ 0 ∷ 0 ∷ 0 ∷ 0 ∷ 0 ∷ 0 ∷ 0 ∷ 0 ∷ 4 ∷ 0 ∷ 0x65 ∷ 0 ∷ 0 ∷ 0 ∷ []

-- the generator starts with the number of records
unfoldable pub load_capture : ℕ → List ℕ
load_capture n = capture_header ++ records_from n 1 n

-- the rules of the load's script, before its live command
unfoldable pub script_start : List ℕ
script_start = codes "add 100 check-state\nadd 200 allow tcp from 10.0.0.0/24 to any 80 setup keep-state\nadd 300 allow udp from 10.0.0.0/24 to any 53 keep-state\nadd 400 allow icmp from any to any icmptypes 0,8\nadd 500 deny ip from any to any\nlive\nafter "

-- half of the records go before a live edit
unfoldable pub load_script : ℕ → List ℕ
load_script n = script_start ++ (decimal (n / 2) ++ codes "\ndelete 300\n")
