-- The refusals, by number and word.
use Rattle.std.specs.Prelude.{ℕ, List, codes}
use Rattle.ficus_ids.specs.declared.refusal.Refusal.{Refusal}
use Rattle.ficus_ids.specs.declared.refusal.Refusal.TheVariants.{Memory, NoEntry, NotDir, IsDir, Exists, Ambiguous, NotEmpty, IntoSelf, Conflict, NoConflict, Declined, TooLong, NotOrphan, Spent, Quota, Stale, Down, NoMail, LinkFull, Store, NoFuse, BadMessage, Member, Link, Image, Mixed, IsLink, NotLink, Crossing, Missing}

abbrev pub refusal_number : Refusal → ℕ
refusal_number Memory = 0
refusal_number NoEntry = 1
refusal_number NotDir = 2
refusal_number IsDir = 3
refusal_number Exists = 4
refusal_number Ambiguous = 5
refusal_number NotEmpty = 6
refusal_number IntoSelf = 7
refusal_number Conflict = 8
refusal_number NoConflict = 9
refusal_number Declined = 10
refusal_number TooLong = 11
refusal_number NotOrphan = 12
refusal_number Spent = 13
refusal_number Quota = 14
refusal_number Stale = 15
refusal_number Down = 16
refusal_number NoMail = 17
refusal_number LinkFull = 18
refusal_number Store = 19
refusal_number NoFuse = 20
refusal_number BadMessage = 21
refusal_number Member = 22
refusal_number Link = 23
refusal_number Image = 24
refusal_number Mixed = 25
refusal_number IsLink = 26
refusal_number NotLink = 27
refusal_number Crossing = 28
refusal_number Missing = 29

abbrev pub refusal_word : Refusal → List ℕ
refusal_word Memory = codes "memory"
refusal_word NoEntry = codes "noentry"
refusal_word NotDir = codes "notdir"
refusal_word IsDir = codes "isdir"
refusal_word Exists = codes "exists"
refusal_word Ambiguous = codes "ambiguous"
refusal_word NotEmpty = codes "notempty"
refusal_word IntoSelf = codes "intoself"
refusal_word Conflict = codes "conflict"
refusal_word NoConflict = codes "noconflict"
refusal_word Declined = codes "declined"
refusal_word TooLong = codes "toolong"
refusal_word NotOrphan = codes "notorphan"
refusal_word Spent = codes "spent"
refusal_word Quota = codes "quota"
refusal_word Stale = codes "stale"
refusal_word Down = codes "down"
refusal_word NoMail = codes "nomail"
refusal_word LinkFull = codes "linkfull"
refusal_word Store = codes "store"
refusal_word NoFuse = codes "nofuse"
refusal_word BadMessage = codes "badmessage"
refusal_word Member = codes "member"
refusal_word Link = codes "link"
refusal_word Image = codes "image"
refusal_word Mixed = codes "mixed"
refusal_word IsLink = codes "islink"
refusal_word NotLink = codes "notlink"
refusal_word Crossing = codes "crossing"
refusal_word Missing = codes "missing"
