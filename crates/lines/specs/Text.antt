-- The printed lines as bytes: 01 'Printing program', "single spaces, addresses dotted decimal". A line ends in a line feed.
use Rattle.std.specs.Prelude.{◌≡◌, Option, Some, None, List, [], ◌∷◌, ◌++◌, ℕ, zero, suc, ◌+◌, ◌-◌, ◌*◌, ◌/◌, ◌%◌, ◌^◌, ◌≤◌, ltb, length, codes}
use Rattle.std.proofs.lemmas.List.Edits.{sets}
use Rattle.laws.specs.Upto.{lowest}
use Rattle.packet.specs.declared.Key.{Key}
use Rattle.summary.specs.declared.State.{State}
use Rattle.summary.specs.declared.State.TheVariants.{Stuck, Short, Stray, Whole}
use Rattle.summary.specs.declared.Report.{Report}

-- a text written over a list from place `at` on, and the place after it; the text ends within the list
pub record Put (before after : List ℕ) (at next : ℕ) (text : List ℕ) : Type 0 where
  pub place : next ≡ at + length text
  pub inside : next ≤ length before
  pub bytes : after ≡ sets before at text

-- the bytes between numbers and at the end of a line
abbrev pub space : ℕ
space = 32

abbrev pub dot : ℕ
dot = 46

abbrev pub feed : ℕ
feed = 10

-- how many decimal digits a number below 10^20 has: the lowest w from 1 on with n below 10^w
unfoldable pub width : ℕ → ℕ
width n = suc (lowest 20 (λ i. ltb n (10 ^ suc i)))

-- the last w decimal digits of a number, the highest of them first; digit 0 is byte 48
unfoldable pub digits : ℕ → ℕ → List ℕ
digits zero n = []
digits (suc w) n = (48 + n / 10 ^ w % 10) ∷ digits w n

-- the number in decimal, with no zero in front
unfoldable pub decimal : ℕ → List ℕ
decimal n = digits (width n) n

-- the number that decimal digits are, read from the left after a number
unfoldable pub value_after : ℕ → List ℕ → ℕ
value_after n [] = n
value_after n (b ∷ s) = value_after (n * 10 + (b - 48)) s

-- a number and the byte after it
unfoldable pub followed : ℕ → ℕ → List ℕ
followed n mark = decimal n ++ (mark ∷ [])

abbrev pub spaced : ℕ → List ℕ
spaced n = followed n space

-- 01 'Printing program': "addresses dotted decimal"
unfoldable pub dotted : ℕ → List ℕ
dotted a = followed (a / 2 ^ 24) dot ++ (followed (a / 2 ^ 16 % 256) dot ++ (followed (a / 2 ^ 8 % 256) dot ++ decimal (a % 256)))

-- an address and its port, a space after each
unfoldable pub endpoint : ℕ → ℕ → List ℕ
endpoint address port = dotted address ++ (space ∷ spaced port)

-- 01 'Printing program': "count or `?`"
abbrev pub count_text : Option ℕ → List ℕ
count_text None = 63 ∷ []
count_text (Some count) = decimal count

-- 01 'Printing program': "per listed flow ..: source, source port, destination, destination port, protocol, count or `?`"
unfoldable pub flow_line : Key → Option ℕ → List ℕ
flow_line key count =
    endpoint key.source key.sport
    ++ (endpoint key.destination key.dport ++ (spaced key.protocol ++ (count_text count ++ (feed ∷ []))))

-- the states as words: stuck, short, stray, whole
abbrev pub state_text : State → List ℕ
state_text Stuck = codes "stuck"
state_text Short = codes "short"
state_text Stray = codes "stray"
state_text Whole = codes "whole"

-- 01 'Printing program': "listed, counted, open and state", to the end of the line
unfoldable pub report_text : Report → List ℕ
report_text r = spaced r.listed ++ (spaced r.counted ++ (spaced r.opens ++ (state_text r.state ++ (feed ∷ []))))

-- 01 'Printing program': "a line of slot, salt, listed, counted, open and state"
unfoldable pub head_line : ℕ → ℕ → Report → List ℕ
head_line slot salt r = spaced slot ++ (spaced salt ++ report_text r)

-- 01 'Printing program': "prints only `refused` and the number"
unfoldable pub refused_line : ℕ → List ℕ
refused_line n = codes "refused " ++ followed n feed
