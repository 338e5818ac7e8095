-- The kept bits of the longest block fit, as bytes and as text.
use Rattle.std.proofs.Common.{◌≤◌, length, sym, arith, length-take-le}
use Rattle.constituent.proofs.PairLaws.{few-pairs}
use Rattle.turbo.proofs.PunctureLaws.{kept-le}
use Rattle.turbo_vectors.proofs.print_parity.Goals as goal

pub encode-requires : goal.encode-requires
encode-requires g c =
    (c.requires, omega (arith, kept-le c.args.encoder.kind c.args.encoder.rate, few-pairs c.args.encoder.kind c.args.encoder.kind_in_range))

pub slice_bounds-out-end : goal.slice_bounds-out-end
slice_bounds-out-end g c = omega (arith, kept-le c.args.encoder.kind c.args.encoder.rate, few-pairs c.args.encoder.kind c.args.encoder.kind_in_range)

pub slice_bounds-write_all-end : goal.slice_bounds-write_all-end
slice_bounds-write_all-end g c =
    let within : c.kept_count-n.result ≤ length c.to_text.new.bits =
    omega (arith, kept-le c.args.encoder.kind c.args.encoder.rate, few-pairs c.args.encoder.kind c.args.encoder.kind_in_range) in
    sym (length-take-le _ _ within)
