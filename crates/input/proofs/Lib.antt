mod FirstGraph
mod FourBytes
