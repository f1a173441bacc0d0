-- numbers
pub mod Sizes
pub mod Signs
pub mod Compared
-- places
pub mod Orders
pub mod Determinant
pub mod InsideSum
pub mod Corners
pub mod Untied
pub mod FlatSides
-- far corners and heights
pub mod FarSides
pub mod Valid
pub mod FarOrientations
pub mod Depths
pub mod OneEdgeBeyond
pub mod HigherPlanes
pub mod Heights
pub mod FarNumbers
pub mod PlanesBelow
pub mod FourApart
pub mod NoFourInPlane
pub mod FarAbove
pub mod InsideDepths
-- tests over corners
pub mod Between
pub mod Edges
pub mod Highest
pub mod FarInside
-- sums
pub mod Sums
pub mod Permuted
pub mod OneOfMany
-- half-open crossings
pub mod HalfOpen
pub mod Crossings
pub mod WeightedSides
-- the tiling
pub mod Tiling
pub mod FarTriangle
pub mod Cover
pub mod Nudged
pub mod CrossedEdges
pub mod Owners
pub mod NeverCross
pub mod HasTriangles
pub mod OneOwner
pub mod OneEach
pub mod NearCorners
pub mod PointsApart
pub mod Holding
pub mod ClosedLaw
