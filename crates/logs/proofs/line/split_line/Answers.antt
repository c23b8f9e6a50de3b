use Rattle.std.proofs.Common.{◌≡◌, ℕ, ◌+◌, ◌-◌, length, take, drop, sym, subst, arith}
use Rattle.logs.specs.Pieces.{fields_of}
use Rattle.logs.specs.Tokens.{Reads}
use Rattle.logs.specs.Lines.{Found}
use Rattle.logs.proofs.Scans.{scan_none, scan-field, scan-comma, scan-end, scan_past}
use Rattle.logs.proofs.line.split_line.Goals as goal

pub loop-token-init : goal.loop-token-init
loop-token-init c = scan_none c.args.text.now

pub loop-token-smaller-in-Field : goal.loop-token-smaller-in-Field
loop-token-smaller-in-Field c =
    let reads = subst (Reads c.args.text.now c.loop-token.«at») c.in-Field.is c.in-Some.ensures in
    let on = scan-field c.args.text.now c.loop-token.«at» c.loop-token.commas c.in-Field.bytes.now c.loop-token.invariant reads.1 in
    omega (arith, reads.2, on.within)

pub loop-token-preserved-in-Field : goal.loop-token-preserved-in-Field
loop-token-preserved-in-Field c =
    let reads = subst (Reads c.args.text.now c.loop-token.«at») c.in-Field.is c.in-Some.ensures in
    scan-field c.args.text.now c.loop-token.«at» c.loop-token.commas c.in-Field.bytes.now c.loop-token.invariant reads.1

pub loop-token-preserved : goal.loop-token-preserved
loop-token-preserved c =
    let reads = subst (Reads c.args.text.now c.loop-token.«at») c.in-Comma.is c.in-Some.ensures in
    scan-comma c.args.text.now c.loop-token.«at» c.loop-token.commas c.loop-token.invariant reads.1 reads.2

pub returns-in-LineEnd : goal.returns-in-LineEnd
returns-in-LineEnd c =
    let text = c.args.text.now in
    let reads = subst (Reads text c.loop-token.«at») c.in-LineEnd.is c.in-Some.ensures in
    let found = scan-end text c.loop-token.«at» c.loop-token.commas c.loop-token.invariant reads.1 reads.2 in
    subst (λ (end : ℕ). Found text (take end text) (take (length text - (end + 1)) (drop (end + 1) text)) × (c.loop-token.commas + 1 ≡ length (fields_of (take end text)))) (sym reads.0) found

pub returns : goal.returns
returns c = scan_past c.args.text.now c.loop-token.«at» c.loop-token.commas c.loop-token.invariant c.in_default.ensures
