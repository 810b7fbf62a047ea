use Rattle.std.proofs.Common.{rules, ◌≡◌, ◌≤◌, ◌<◌, ◌+◌, ◌-◌, false, get_or, length, take, drop, le_of_eq, length-drop, take_all}
use Rattle.csv.specs.Reading.{strip_bom}
use Rattle.csv_rows.proofs.Splitting.{cut_behind, has_quote}
use Rattle.csv_rows.proofs.shared.place_to_cut.Goals as goal

pub returns-clause-records : goal.returns-clause-records
returns-clause-records c =
    let bytes = c.args.bytes.now in
    let at = c.in_ok-feed.feed in
    let within : at < length bytes = search rules in
    let feed : get_or bytes at 0 ≡ 10 = search rules in
    let size : 3 ≤ at = search rules in
    let quotes : has_quote (take at bytes) ≡ false = search rules in
    let back = drop (at + 1) bytes in
    let all : take (length bytes - (at + 1)) back ≡ back =
    take_all (length bytes - (at + 1)) back (le_of_eq (length-drop (at + 1) bytes)) in
    let told : strip_bom (take (length bytes - (at + 1)) back)
    ≡ take (length bytes - (at + 1)) back = search rules in
    let mark : strip_bom back ≡ back = rw all at told in
    cut_behind bytes at 0 within feed size quotes mark
